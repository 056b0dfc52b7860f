use Rattle.cad_layer.specs.lemmas.SearchLemmas.{unique}
use Rattle.cad_layer.proofs.laws.identifiers_are_unique.Goals as goal

pub returns : goal.returns
returns c = unique
