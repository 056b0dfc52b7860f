use Rattle.std.proofs.Common.{length, ◌≡◌, ◌≤◌, ◌+◌, drop, map, min}
use Rattle.cad_lookup.specs.Ways.{cost, counts_of, least_or, min_of, most, total, way_of}
use Rattle.cad_plan.proofs.estimating.+costs.Given as goal

-- the least so far, with the costs that are left, is the least of all
abbrev pub invariant-least_cost-loop-place : goal.invariant-least_cost-loop-place
invariant-least_cost-loop-place l =
    min_of l.least (map (cost (counts_of l.features.features)) (map way_of (drop l.place l.plans))) ≡ least_or (length l.features.features) (map (cost (counts_of l.features.features)) (map way_of l.plans))

abbrev pub invariant-sum_of_costs-loop-plan : goal.invariant-sum_of_costs-loop-plan
invariant-sum_of_costs-loop-plan l = record {
  sums : min most (l.sum + total (map (cost (counts_of l.features.features)) (map way_of (drop l.plan-index l.plans)))) ≡ min most (total (map (cost (counts_of l.features.features)) (map way_of l.plans)));
  small : l.sum ≤ most;
}
