use Rattle.std.proofs.Common.{◌+◌, map, subst, sym}
use Rattle.cad_feature.specs.Values.{datum_of}
use Rattle.cad_feature.proofs.FoldedLemmas.{AreMarkedBelow, marked_more, all_marked}
use Rattle.cad_feature.proofs.marks.marks_of_values.Goals as goal

pub loop-property-preserved : goal.loop-property-preserved
loop-property-preserved c = subst (λ m. AreMarkedBelow m (c.loop-property.property + 1) (map datum_of c.args.values.now)) (sym c.with-marks.ensures) (marked_more c.args.values.now c.loop-property.property c.loop-property.marks _ c.index-values-property.result c.loop-property-test.true c.index-values-property.is c.loop-property.invariant c.marks_of_value.ensures)

pub returns : goal.returns
returns c = all_marked c.args.values.now c.loop-property.property c.loop-property.marks c.loop-property-test.false c.loop-property.invariant
