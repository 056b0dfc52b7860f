use Rattle.std.proofs.Common.{◌+◌, ◌≤◌, List, length, subst}
use Rattle.std.specs.Prelude.{IfOk}
use Rattle.cad_feature.specs.Features.{Item}
use Rattle.cad_run.specs.Owed.{IfPart, remaining}
use Rattle.cad_page.proofs.PieceLemmas.{comes_of_piece}
use Rattle.cad_page.proofs.piecing.piece_by.Goals as goal

pub returns-clause-comes : goal.returns-clause-comes
returns-clause-comes c =
    comes_of_piece c.covering_plans_have_the_answer.ensures c.args.plan.now c.args.ask.now c.args.snapshot.now c.args.search.now c.piece.new.search c.requires.search
    c.piece.result _ _ _ c.features-features.ensures.collection c.query.ensures.asked c.features-features.ensures.features c.piece.ensures.owes c.piece.ensures.few

pub returns-clause-smaller : goal.returns-clause-smaller
returns-clause-smaller c =
    subst (λ (xs : List Item). IfOk c.piece.result (λ progress. IfPart progress (length (remaining c.piece.new.search xs) + c.args.budget ≤ length (remaining c.args.search.now xs))))
    c.features-features.ensures.features c.piece.ensures.smaller
