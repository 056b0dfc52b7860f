use Rattle.std.proofs.Common.{ap, map, subst}
use Rattle.cad_feature.specs.Marks.{AreMarked}
use Rattle.cad_feature.specs.Values.{datum_of}
use Rattle.cad_feature.proofs.feature.Feature.new.Goals as goal

pub invariant_of-result : goal.invariant_of-result
invariant_of-result c = (c.requires, subst (AreMarked c.marks_of_values-marks.result) (ap (map datum_of) c.deref.ensures.value) c.marks_of_values-marks.ensures)
