use Rattle.std.proofs.Common.{◌≡◌, ◌+◌, ◌≤◌, drop, map}
use Rattle.cad_lookup.specs.Ways.{total}
use Rattle.cad_page.specs.Weights.{capped, number_weight}
use Rattle.cad_page.proofs.weights.numbers_weight.Given as goal

-- the weight so far with that of the terms that are left is that of all
abbrev pub invariant-loop-term : goal.invariant-loop-term
invariant-loop-term l = record {
  counted : capped (l.weight + total (map number_weight (drop l.term-index l.terms))) ≡ capped (total (map number_weight l.terms));
  within : l.weight ≤ 18446744073709551615;
}
