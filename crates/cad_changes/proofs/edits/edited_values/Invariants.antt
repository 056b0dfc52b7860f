use Rattle.std.proofs.Common.{◌≡◌, map, take}
use Rattle.cad_schema.specs.Attributes.{attribute_of}
use Rattle.cad_feature.specs.Values.{datum_of}
use Rattle.cad_changes.specs.inner.EditsOf.{edits_of}
use Rattle.cad_changes.specs.Touching.{edited_data}
use Rattle.cad_changes.proofs.edits.edited_values.Given as goal

abbrev pub invariant-loop-place : goal.invariant-loop-place
invariant-loop-place l = map datum_of l.values.items ≡ edited_data (edits_of l.new) l.first (take l.place (map attribute_of l.properties)) (map datum_of l.old)
