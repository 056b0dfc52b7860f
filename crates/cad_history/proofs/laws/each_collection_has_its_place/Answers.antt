use Rattle.cad_history.specs.lemmas.CollectionLemmas.{is_placed}
use Rattle.cad_history.proofs.laws.each_collection_has_its_place.Goals as goal

pub returns : goal.returns
returns c = λ default collection. is_placed collection default
