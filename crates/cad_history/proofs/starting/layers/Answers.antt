use Rattle.std.proofs.Common.{◌++◌, ◌∙◌, map, ap, subst}
use Rattle.std.specs.List.{AllByRecursion}
use Rattle.std.specs.Vec.Iter.{into_iter_items}
use Rattle.cad_feature.specs.Features.{AreFeaturesOf}
use Rattle.cad_history.specs.inner.Starting.{items_in}
use Rattle.cad_history.proofs.StartedLemmas.{one_of}
use Rattle.cad_history.proofs.starting.layers.Goals as goal

pub layer-requires : goal.layer-requires
layer-requires c =
    one_of (AreFeaturesOf c.args.collection) c.loop-list.yielded c.in-Some.list (into_iter_items c.next.new.self)
    (subst (λ vs. AllByRecursion (AreFeaturesOf c.args.collection) (map items_in vs)) (c.loop-list.invariant.rest ∙ ap (λ vs. c.loop-list.yielded ++ vs) c.in-Some.ensures.steps.0) c.requires)
