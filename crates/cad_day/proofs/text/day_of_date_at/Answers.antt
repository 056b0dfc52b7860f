use Rattle.std.proofs.Common.{◌≡◌, ◌∙◌, refl, arith, pos, w32, FitsSigned, to_z-of_z}
use Rattle.jiff_core.specs.Date.{epoch_day}
use Rattle.jiff_core.specs.Calendar.{days_from_civil}
use Rattle.jiff_core.proofs.SignedLemmas.{signed_arith}
use Rattle.jiff_core.proofs.DateLemmas.{civil}
use Rattle.cad_day.proofs.CivilLemmas.{in_day_numbers}
use Rattle.cad_day.proofs.DayTextLemmas.{day_with_number}
use Rattle.cad_day.proofs.text.day_of_date_at.Goals as goal

pub returns : goal.returns
returns c =
    let found = c.in_ok-date.ensures in
    let parts = rw (found.1, found.2, found.3) at (civil c.in_ok-date.date) in
    let fits : FitsSigned w32 c.to_unix_epoch_day.result = omega (arith, signed_arith) in
    let made = rw (to_z-of_z fits) at c.new.ensures in
    let date : epoch_day c.in_ok-date.date ≡ days_from_civil (pos c.args.year) c.args.month c.args.date = rw (found.1, found.2, found.3) refl in
    let number = c.to_unix_epoch_day.ensures.value ∙ date in
    rw found.0 (day_with_number c.new.result _ (in_day_numbers c.args.year c.args.month c.args.date parts) (rw number at made))
