use Rattle.cad_day.proofs.NamingLemmas.{names_text}
use Rattle.cad_day.proofs.laws.each_day_is_named.Goals as goal

pub returns : goal.returns
returns c = names_text _ _ _ _ c.civil_date.ensures.in_calendar c.civil_date.ensures.counted
