use Rattle.cad_layer.proofs.LayerLemmas.{nothing_rises}
use Rattle.cad_layer.proofs.merging.merge.Goals as goal

pub new-requires-clause-indexed : goal.new-requires-clause-indexed
new-requires-clause-indexed c = (c.requires.0, nothing_rises)
