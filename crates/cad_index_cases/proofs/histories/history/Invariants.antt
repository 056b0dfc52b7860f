use Rattle.std.proofs.Common.{◌≡◌}
use Rattle.cad_schema.specs.declared.collection.Collection.TheVariants.{Parcels}
use Rattle.cad_index_cases.proofs.histories.history.Given as goal

abbrev pub invariant-loop-revision : goal.invariant-loop-revision
invariant-loop-revision l = l.history.collection ≡ Parcels
