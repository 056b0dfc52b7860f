use Rattle.std.proofs.Common.{◌≡◌, ◌+◌, ◌≤◌, drop, map}
use Rattle.cad_lookup.specs.Ways.{total}
use Rattle.cad_page.specs.Weights.{capped, weight_of}
use Rattle.cad_page.proofs.weights.+weights.Given as goal

-- the weight so far with that of the parts that are left is that of all
abbrev pub invariant-weight_of_all-loop-part : goal.invariant-weight_of_all-loop-part
invariant-weight_of_all-loop-part l = record {
  counted : capped (l.weight + total (map weight_of (drop l.part-index l.parts))) ≡ capped (total (map weight_of l.parts));
  within : l.weight ≤ 18446744073709551615;
}
