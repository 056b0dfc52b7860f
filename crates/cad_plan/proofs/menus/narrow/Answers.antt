use Rattle.std.proofs.Common.{◌∙◌, ap, map, drop, ◌+◌, nat_lt}
use Rattle.cad_lookup.specs.Ways.{cost, counts_of, way_of}
use Rattle.cql_rewrite.specs.lemmas.MenuNodeLemmas.{choice_costs}
use Rattle.cql_rewrite.specs.Menus.{choice}
use Rattle.cad_plan.specs.inner.Gathered.{with_if}
use Rattle.cad_plan.proofs.ListLemmas.{map_next, narrow_next}
use Rattle.cad_plan.proofs.menus.narrow.Goals as goal

pub loop-part-preserved : goal.loop-part-preserved
loop-part-preserved c =
    let counts = counts_of c.args.features.now.features in
    let w = choice counts c.part-item.result in
    let old = map way_of c.loop-part.narrow.plans.items in
    let is_less = nat_lt c.estimate-cost.result c.count-all.result in
    narrow_next counts c.count-all.result c.estimate-cost.result old (map way_of c.add.new.self.plans.items) (map (choice counts) (drop c.loop-part.part-index c.args.parts.now)) (map (choice counts) (drop (c.loop-part.part-index + 1) c.args.parts.now)) _ w
    c.count-all.ensures (c.estimate-cost.ensures ∙ ap (cost counts) c.in_ok-plan.ensures.way) (choice_costs counts c.part-item.result)
    (c.in_ok-add.ensures.plans ∙ ap (with_if is_less old) c.in_ok-plan.ensures.way)
    (map_next (choice counts) c.args.parts.now c.loop-part.part-index c.part-item.result c.loop-part-test.true c.part-item.is) c.loop-part.invariant
