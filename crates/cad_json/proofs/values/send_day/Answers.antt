use Rattle.cad_day.specs.lemmas.DayTextLemmas.{date_text_utf8}
use Rattle.cad_json.proofs.SendLemmas.{ok_of_text}
use Rattle.cad_json.proofs.values.send_day.Goals as goal

pub unwrap-requires : goal.unwrap-requires
unwrap-requires g c =
    let spelt = c.bytes-bytes.ensures in
    ok_of_text _ _ _ _ c.from_utf8.ensures.cases (rw spelt (date_text_utf8 _ _ _))
