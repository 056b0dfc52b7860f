use Rattle.cad_day.proofs.NamingLemmas.{read_of_named, named_of_read}
use Rattle.cad_day.proofs.laws.reading_is_naming.Goals as goal

pub returns : goal.returns
returns c = λ text number. (named_of_read text number, read_of_named text number)
