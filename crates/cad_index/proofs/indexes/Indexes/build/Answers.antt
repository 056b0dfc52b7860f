use Rattle.std.proofs.Common.{arith}
use Rattle.cad_schema.specs.Schema.{schema_of}
use Rattle.cad_index.proofs.Schemas.{alike_at, index_more}
use Rattle.cad_index.proofs.indexes.Indexes.build.Goals as goal

pub index-requires-clause-alike : goal.index-requires-clause-alike
index-requires-clause-alike c = alike_at c.args.collection c.args.features.now c.schema-property-items.result.now c.loop-place.place _ c.loop-place.invariant.named (omega arith) c.requires.listed

pub loop-place-preserved : goal.loop-place-preserved
loop-place-preserved c = record {
  named = c.loop-place.invariant.named;
  indexed = rw (c.in_ok-push.ensures.items, c.in_ok-index.ensures) (index_more (schema_of c.args.collection) c.args.features.now c.schema-property-items.result.now c.loop-place.place _ c.loop-place.properties.items _ c.loop-place.invariant.named (omega arith) c.loop-place.invariant.indexed);
}
