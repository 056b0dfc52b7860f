use Rattle.std.proofs.Common.{ℕ, List, add-one, subst, sym}
use Rattle.std.specs.Io.KnownBytes.{Appends}
use Rattle.std.proofs.lemmas.Result.{err_from_is_err_and}
use Rattle.std.proofs.KnownBytes.{Appends-trans}
use Rattle.cad_office.proofs.WriteLemmas.{joined_at, joined_next, cut_with}
use Rattle.cad_office.proofs.write.write_each.Goals as goal

pub returns-in_err-write_whole : goal.returns-in_err-write_whole
returns-in_err-write_whole g c =
    let p = err_from_is_err_and c.from_residual.result c.from_residual.ensures.1 in
    rw p.1 (cut_with _ _ _ _ _ _ _ (joined_at (λ p. p.now) c.args.pieces.now c.loop-piece.piece-index _ c.loop-piece-test.true) c.loop-piece.invariant c.in_err-write_whole.ensures)

pub loop-piece-preserved : goal.loop-piece-preserved
loop-piece-preserved g c =
    let more = Appends-trans _ _ _ _ _ c.loop-piece.invariant c.in_ok-write_whole.ensures in
    let next = sym (joined_next (λ p. p.now) c.args.pieces.now c.loop-piece.piece-index _ c.loop-piece-test.true) in
    rw add-one (subst (λ (w : List ℕ). Appends (g.W.Write.contents c.args.writer.now) (g.W.Write.contents c.write_whole.new.writer) w) next more)
