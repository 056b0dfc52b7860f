use Rattle.std.proofs.Common.{map}
use Rattle.cad_feature.specs.Values.{datum_of}
use Rattle.cad_feature.proofs.FoldedLemmas.{AreMarkedBelow}
use Rattle.cad_feature.proofs.marks.marks_of_values.Given as goal

abbrev pub invariant-loop-property : goal.invariant-loop-property
invariant-loop-property l = AreMarkedBelow l.marks l.property (map datum_of l.values)
