use Rattle.std.proofs.Common.{◌≡◌, ◌∙◌, ℕ, suc, ◌+◌, [], ◌∷◌, ◌++◌, Bor, ap, sym, take, arith}
use Rattle.std.proofs.lemmas.List.{map-append}
use Rattle.std.specs.Prelude.{option_copied}
use Rattle.cad_feature.specs.Features.{Item}
use Rattle.cad_run.specs.Slices.{lent}
use Rattle.cad_page.specs.Pages.{rows_in}
use Rattle.cad_page.proofs.PieceLemmas.{row_more, row_there}
use Rattle.cad_page.proofs.piecing.rows_found.Goals as goal

pub loop-identifier-preserved : goal.loop-identifier-preserved
loop-identifier-preserved c =
    let ask = c.args.ask.now in
    let snapshot = c.args.snapshot.now in
    let i = c.loop-identifier.identifier-index in
    let rows = c.loop-identifier.rows.items in
    let feature = c.in-Some.feature in
    let more : i + 1 ≡ suc i = omega arith in
    let pushed : lent c.push.new.self.items ≡ lent rows ++ feature.now ∷ [] = ap lent c.in_ok-push.ensures.items ∙ map-append (λ (x : Bor Item). x.now) rows (feature ∷ []) in
    let step = row_more ask snapshot c.args.found.now i c.identifier-item.result (option_copied c.feature_found.result) (lent rows) feature.now c.loop-identifier-test.true c.identifier-item.is c.requires c.loop-identifier.invariant c.feature_found.ensures (ap option_copied c.in-Some.is) in
    pushed ∙ step ∙ ap (λ (n : ℕ). take n (rows_in ask snapshot)) (sym more)

pub unreachable-requires : goal.unreachable-requires
unreachable-requires c =
    row_there c.args.ask.now c.args.snapshot.now c.args.found.now c.loop-identifier.identifier-index c.identifier-item.result (option_copied c.feature_found.result) c.loop-identifier-test.true c.identifier-item.is c.requires c.feature_found.ensures (ap option_copied c.in_default.is)
