use Rattle.std.proofs.Common.{List, ◌++◌, ◌∙◌, ap, subst, sym}
use Rattle.cad_feature.specs.Features.{Item}
use Rattle.cad_lookup.specs.Candidates.{candidates}
use Rattle.cad_run.specs.Left.{candidates_left}
use Rattle.cad_run.specs.lemmas.TakenLemmas.{IsTaken}
use Rattle.cad_changes.specs.Touching.{items_left}
use Rattle.cad_changes.proofs.FitLemmas.{left_step}
use Rattle.cad_changes.proofs.leaving.candidates_left.Goals as goal

pub loop-left-init : goal.loop-left-init
loop-left-init c =
    let of_them = items_left c.args.command.now c.args.features.now.collection in
    ap of_them (sym c.of-left.ensures.left)
    ∙ ap (λ (xs : List Item). xs ++ of_them (candidates_left c.of-left.result)) (sym c.new-all.ensures.items)

pub loop-left-preserved : goal.loop-left-preserved
loop-left-preserved c = left_step c.args.command.now c.args.features.now.collection _ (candidates c.args.plan.now c.args.features.now.features) c.loop-left.all.items _ c.in-Some.feature.now _ _ c.collection-collection.ensures.collection c.loop-left.invariant (subst (λ found. IsTaken found (candidates_left c.loop-left.left) (candidates_left c.next.new.self)) c.in-Some.is c.in_ok-feature.ensures) c.in_ok-push_left.ensures
