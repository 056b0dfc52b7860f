use Rattle.std.proofs.Common.{◌∙◌, ap, map, drop, ◌∷◌, ◌++◌, [], ◌+◌}
use Rattle.cad_lookup.specs.Ways.{counts_of, way_of}
use Rattle.cql_rewrite.specs.Menus.{choice}
use Rattle.cad_plan.proofs.ListLemmas.{map_next, map_push, moved}
use Rattle.cad_plan.proofs.menus.add_choices.Goals as goal

pub loop-part-preserved : goal.loop-part-preserved
loop-part-preserved c =
    let counts = counts_of c.args.features.now.features in
    let old = map way_of c.loop-part.plans.items in
    let more = ap (map way_of) c.in_ok-push.ensures.items ∙ map_push way_of c.loop-part.plans.items c.in_ok-plan.plan ∙ ap (λ v. old ++ v ∷ []) c.in_ok-plan.ensures.way in
    moved old (map way_of c.push.new.self.items) (map (choice counts) (drop c.loop-part.part-index c.args.parts.now)) (map (choice counts) (drop (c.loop-part.part-index + 1) c.args.parts.now)) _ (choice counts c.part-item.result) more
    (map_next (choice counts) c.args.parts.now c.loop-part.part-index c.part-item.result c.loop-part-test.true c.part-item.is) c.loop-part.invariant
