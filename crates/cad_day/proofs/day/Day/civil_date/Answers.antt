use Rattle.std.proofs.Common.{◌≡◌, ◌∙◌, sym, ap, arith, to_z-of_z, unsigned_abs, FitsSigned, w16}
use Rattle.jiff_core.specs.Date.{epoch_day}
use Rattle.jiff_core.proofs.SignedLemmas.{signed_arith, signed_casts}
use Rattle.cad_day.specs.Days.{number_of}
use Rattle.cad_day.proofs.CivilLemmas.{calendar_of}
use Rattle.cad_day.proofs.day.Day.civil_date.Goals as goal

pub returns : goal.returns
returns c =
    let date = c.from_days_since_min-date.result in
    let number : epoch_day date ≡ number_of c.args.self = omega (arith, signed_casts) in
    let fits : FitsSigned w16 date.year = omega (arith, signed_arith) in
    let year : unsigned_abs date.year ≡ c.unsigned_abs.result = sym (c.unsigned_abs.ensures.value ∙ ap unsigned_abs (to_z-of_z fits)) in
    let parts = rw year at (calendar_of date (number_of c.args.self) c.args.self.in_range number) in
    record { in_calendar = parts.0; counted = parts.1 }
