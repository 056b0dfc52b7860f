use Rattle.std.proofs.Common.{◌∙◌, ap, sym, map, drop, ◌+◌, ◌∷◌, arith}
use Rattle.cad_grid.specs.Blocks.{block_of}
use Rattle.cad_feature.specs.Limits.{limit_of}
use Rattle.cad_lookup.specs.WayLaws.{cost_all, cost_join, cost_meet, cost_near, cost_none, cost_range, way_All, way_Empty, way_Join, way_Meet, way_Near, way_Range}
use Rattle.cad_lookup.specs.Ways.{cost, counts_of, way_of}
use Rattle.cad_plan.proofs.ListLemmas.{least_next, map_next, map_over, sum_done}
use Rattle.cad_plan.proofs.estimating.+costs.Goals as goal

pub cost_in-returns-in-All : goal.cost_in-returns-in-All
cost_in-returns-in-All m c =
    let counts = counts_of c.args.features.now.features in
    c.count.ensures ∙ sym (ap (λ p. cost counts (way_of p)) c.in-All.is ∙ ap (cost counts) way_All ∙ cost_all counts)

pub cost_in-returns-in-Empty : goal.cost_in-returns-in-Empty
cost_in-returns-in-Empty m c =
    let counts = counts_of c.args.features.now.features in
    sym (ap (λ p. cost counts (way_of p)) c.in-Empty.is ∙ ap (cost counts) way_Empty ∙ cost_none counts)

pub cost_in-returns-in-Range : goal.cost_in-returns-in-Range
cost_in-returns-in-Range m c =
    let counts = counts_of c.args.features.now.features in
    let r = c.in-Range.range in
    c.count_in.ensures ∙ sym (ap (λ p. cost counts (way_of p)) c.in-Range.is ∙ ap (cost counts) (way_Range r) ∙ cost_range counts r.property (limit_of r.low) (limit_of r.high))

pub cost_in-returns-in-Near : goal.cost_in-returns-in-Near
cost_in-returns-in-Near m c =
    let counts = counts_of c.args.features.now.features in
    let place = c.in-Near.property in
    let block = block_of c.in-Near.bounds in
    c.count_near.ensures ∙ sym (ap (λ p. cost counts (way_of p)) c.in-Near.is ∙ ap (cost counts) (way_Near place c.in-Near.bounds) ∙ cost_near counts place block)

pub cost_in-returns-in-Meet : goal.cost_in-returns-in-Meet
cost_in-returns-in-Meet m c =
    let counts = counts_of c.args.features.now.features in
    let v = c.in-Meet.plans in
    rw c.deref.ensures.value at c.least_cost.ensures
    ∙ sym (ap (λ p. cost counts (way_of p)) c.in-Meet.is ∙ ap (cost counts) (way_Meet v) ∙ cost_meet counts (map way_of v.items))

pub cost_in-returns-in-Join : goal.cost_in-returns-in-Join
cost_in-returns-in-Join m c =
    let counts = counts_of c.args.features.now.features in
    let v = c.in-Join.plans in
    rw c.deref-in-Join.ensures.value at c.sum_of_costs.ensures
    ∙ sym (ap (λ p. cost counts (way_of p)) c.in-Join.is ∙ ap (cost counts) (way_Join v) ∙ cost_join counts (map way_of v.items))

pub least_cost-loop-place-preserved : goal.least_cost-loop-place-preserved
least_cost-loop-place-preserved m c =
    let counts = counts_of c.args.features.now.features in
    least_next c.loop-place.least c.cost_in.result c.min-least.result _ _ (map (cost counts) (map way_of (drop (c.loop-place.place + 1) c.args.plans.now)))
    (ap (map (cost counts)) (map_next way_of c.args.plans.now c.loop-place.place c.index-plans-place.result c.loop-place-test.true c.index-plans-place.is) ∙ ap (λ n. n ∷ map (cost counts) (map way_of (drop (c.loop-place.place + 1) c.args.plans.now))) (sym c.cost_in.ensures))
    c.min-least.ensures c.loop-place.invariant

pub sum_of_costs-returns : goal.sum_of_costs-returns
sum_of_costs-returns m c =
    let counts = counts_of c.args.features.now.features in
    sum_done c.loop-plan.sum _ (map (cost counts) (map way_of (drop c.loop-plan.plan-index c.args.plans.now)))
    (ap (map (cost counts)) (map_over way_of c.args.plans.now c.loop-plan.plan-index (omega (arith, c.loop-plan-test.false)))) c.loop-plan.invariant.small c.loop-plan.invariant.sums
