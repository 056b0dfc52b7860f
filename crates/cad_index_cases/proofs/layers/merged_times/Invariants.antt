use Rattle.std.proofs.Common.{◌≡◌}
use Rattle.cad_schema.specs.declared.collection.Collection.TheVariants.{Parcels}
use Rattle.cad_index_cases.proofs.layers.merged_times.Given as goal

abbrev pub invariant-loop : goal.invariant-loop
invariant-loop l = l.layer.collection ≡ Parcels
