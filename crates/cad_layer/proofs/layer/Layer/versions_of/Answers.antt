use Rattle.cad_layer.proofs.LayerLemmas.{nothing_rises}
use Rattle.cad_layer.proofs.layer.Layer.versions_of.Goals as goal

pub new-requires-clause-indexed : goal.new-requires-clause-indexed
new-requires-clause-indexed c = (nothing_rises, nothing_rises)

pub new-requires-clause-changes : goal.new-requires-clause-changes
new-requires-clause-changes c = nothing_rises
