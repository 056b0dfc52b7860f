use Rattle.cad_schema.specs.lemmas.NameLemmas.{what_is_read_has_the_name}
use Rattle.cad_schema.proofs.laws.what_is_read_has_the_name.Goals as goal

pub returns : goal.returns
returns c = what_is_read_has_the_name
