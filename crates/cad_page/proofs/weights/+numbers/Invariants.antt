use Rattle.std.proofs.Common.{◌≡◌, ◌+◌, ◌≤◌, drop, map}
use Rattle.cad_lookup.specs.Ways.{total}
use Rattle.cad_page.specs.Weights.{capped, part_weight}
use Rattle.cad_page.proofs.weights.+numbers.Given as goal

-- the weight so far with that of the parts that are left is that of all
abbrev pub invariant-parts_weight-loop-step : goal.invariant-parts_weight-loop-step
invariant-parts_weight-loop-step l = record {
  counted : capped (l.weight + total (map part_weight (drop l.step-index l.steps))) ≡ capped (total (map part_weight l.steps));
  within : l.weight ≤ 18446744073709551615;
}
