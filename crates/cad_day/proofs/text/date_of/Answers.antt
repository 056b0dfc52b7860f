use Rattle.std.proofs.Common.{◌≡◌, pos, to_z, w8, w16, arith}
use Rattle.std.proofs.lemmas.Int.{to_z_pos}
use Rattle.cad_day.proofs.DayTextLemmas.{date_of_new}
use Rattle.cad_day.proofs.text.date_of.Goals as goal

pub returns : goal.returns
returns c =
    let year : to_z w16 c.args.year ≡ pos c.args.year = to_z_pos w16 c.args.year (omega arith) in
    let month : to_z w8 c.args.month ≡ pos c.args.month = to_z_pos w8 c.args.month (omega arith) in
    let date : to_z w8 c.args.date ≡ pos c.args.date = to_z_pos w8 c.args.date (omega arith) in
    let succeeds = rw (year, month, date) at c.new.ensures.succeeds in
    let value = rw (year, month, date) at c.new.ensures.value in
    rw c.ok.ensures.value (date_of_new c.new.result c.args.year c.args.month c.args.date (omega arith) succeeds value)
