use Rattle.std.proofs.Common.{◌≡◌, map, take}
use Rattle.cad_feature.specs.Values.{datum_of}
use Rattle.cad_feature.proofs.feature.copies.Given as goal

abbrev pub invariant-loop-value : goal.invariant-loop-value
invariant-loop-value l = map datum_of l.copies.items ≡ map datum_of (take l.value-index l.values)
