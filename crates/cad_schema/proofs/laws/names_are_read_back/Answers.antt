use Rattle.cad_schema.specs.lemmas.NameLemmas.{names_are_read_back}
use Rattle.cad_schema.proofs.laws.names_are_read_back.Goals as goal

pub returns : goal.returns
returns c = names_are_read_back
