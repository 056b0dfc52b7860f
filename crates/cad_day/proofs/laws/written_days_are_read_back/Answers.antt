use Rattle.cad_day.proofs.NamingLemmas.{read_of_named}
use Rattle.cad_day.proofs.laws.written_days_are_read_back.Goals as goal

pub returns : goal.returns
returns c = read_of_named _ _ c.each_day_is_named.ensures
