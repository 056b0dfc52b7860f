use Rattle.std.proofs.Common.{◌∙◌}
use Rattle.cad_day.proofs.DayTextLemmas.{ok_of_text, appended_if_ok}
use Rattle.cad_day.proofs.day.Day.put.Goals as goal
use Rattle.cad_day.specs.lemmas.DayTextLemmas.{date_text_utf8}

pub unwrap-requires : goal.unwrap-requires
unwrap-requires c =
    let spelt = c.bytes-bytes.ensures in
    ok_of_text _ _ _ _ c.from_utf8.ensures.cases (rw spelt (date_text_utf8 _ _ _))

pub returns-clause-appended : goal.returns-clause-appended
returns-clause-appended c =
    let cases = rw c.unwrap.ensures at c.from_utf8.ensures.cases in
    appended_if_ok c.push_str.result _ _ _ _ c.push_str.ensures.bytes (cases.0 ∙ c.bytes-bytes.ensures)
