use Rattle.std.proofs.Common.{◌≡◌}
use Rattle.cad_schema.specs.declared.collection.Collection.TheVariants.{Parcels}
use Rattle.cad_index_cases.proofs.layers.merged_lists.Given as goal

abbrev pub invariant-loop-labels : goal.invariant-loop-labels
invariant-loop-labels l = l.layer.collection ≡ Parcels
