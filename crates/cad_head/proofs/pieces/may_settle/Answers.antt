use Rattle.std.proofs.Common.{◌≡◌, ◌+◌, ◌==◌, nat_le, false, length, sym, ◌∙◌, arith}
use Rattle.std.proofs.lemmas.Bool.Decides.{nat_tests}
use Rattle.std.specs.List.{list_any}
use Rattle.cad_head.specs.Heads.{front_len}
use Rattle.cad_head.proofs.HeadsLemmas.{stays_incomplete}
use Rattle.cad_head.proofs.pieces.may_settle.Goals as goal

pub returns-else-contains-clause-stays : goal.returns-else-contains-clause-stays
returns-else-contains-clause-stays c unsettled =
    let no_end : list_any (λ b. b == 10) c.args.piece.now ≡ false = sym c.contains.ensures.value ∙ c.if-contains.false in
    let left = c.saturating_sub.ensures in
    let room : nat_le front_len (length c.args.held.now + length c.args.piece.now) ≡ false = grind (arith, nat_tests) in
    stays_incomplete c.args.held.now c.args.piece.now (rw (no_end, room))
