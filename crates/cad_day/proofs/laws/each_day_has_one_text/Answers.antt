use Rattle.cad_day.proofs.NamingLemmas.{text_of_named}
use Rattle.cad_day.proofs.laws.each_day_has_one_text.Goals as goal

pub returns : goal.returns
returns c = text_of_named
