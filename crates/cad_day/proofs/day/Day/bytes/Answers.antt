use Rattle.std.proofs.Common.{◌∙◌, sym}
use Rattle.cad_day.specs.Days.{number_of}
use Rattle.cad_day.proofs.NamingLemmas.{day_text_is}
use Rattle.cad_day.proofs.day.Day.bytes.Goals as goal

pub returns : goal.returns
returns c =
    c.spelt.ensures ∙ sym (day_text_is _ _ _ (number_of c.args.self) c.civil_date-year.ensures.in_calendar c.civil_date-year.ensures.counted)
