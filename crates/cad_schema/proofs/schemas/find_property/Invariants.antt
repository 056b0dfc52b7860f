use Rattle.std.proofs.Common.{◌≡◌, map, drop}
use Rattle.cad_schema.specs.Schema.{property_of, find, find_from}
use Rattle.cad_schema.proofs.schemas.find_property.Given as goal

abbrev pub invariant-loop-place : goal.invariant-loop-place
invariant-loop-place l = find_from l.place (map property_of (drop l.place l.property-items)) l.name ≡ find (map property_of l.property-items) l.name
