use Rattle.std.proofs.Common.{◌≡◌, ◌++◌, drop, map}
use Rattle.cad_schema.specs.Schema.{property_of, schema_of}
use Rattle.cad_index.specs.Indexed.{indexes_from, indexes_of}
use Rattle.cad_index.proofs.indexes.Indexes.build.Given as goal

abbrev pub invariant-loop-place : goal.invariant-loop-place
invariant-loop-place l = record {
  named : map property_of l.property-items ≡ schema_of l.fn.collection;
  indexed : l.properties.items ++ indexes_from l.place (drop l.place (schema_of l.fn.collection)) l.features ≡ indexes_of l.fn.collection l.features;
}
