-- What is printed for a line (own profile).
use Rattle.std.specs.Prelude.{ℕ, List, [], ◌∷◌, ◌++◌, codes, decimal}
use Rattle.std.specs.Fmt.{signed_decimal}
use Rattle.cad_day.specs.Days.{number_of}
use Rattle.cad_day.specs.DayTexts.{day_text}
use Rattle.cad_versions.specs.declared.fault.RegisterFault.{RegisterFault}
use Rattle.cad_versions.specs.declared.fault.RegisterFault.TheVariants as fault
use Rattle.cad_versions.specs.Fault.{fault_number, fault_name}
use Rattle.cad_office.specs.declared.print.Answer.{Answer}
use Rattle.cad_office.specs.declared.print.Answer.TheVariants.{Entered, Refused, NotACommand}

-- the pieces, one after the other
abbrev pub joined : List (List ℕ) → List ℕ
joined [] = []
joined (piece ∷ pieces) = piece ++ joined pieces

-- what a refusal reports in addition to its number and name: the first day of the open version, or the damaged version
abbrev pub detail : RegisterFault → List (List ℕ)
detail (fault.DayNotAfter day) = codes " " ∷ day_text (number_of day) ∷ []
detail (fault.Damaged object number) = codes " " ∷ signed_decimal object ∷ codes "." ∷ signed_decimal number ∷ []
detail _ = []

-- the line of an answer
abbrev pub printed : Answer → List ℕ
printed (Entered revision) = joined (codes "revision " ∷ decimal revision ∷ codes "\n" ∷ [])
printed (Refused why) =
    joined (codes "refused " ∷ decimal (fault_number why) ∷ codes " " ∷ fault_name why ∷ detail why ++ codes "\n" ∷ [])
printed NotACommand = codes "refused 0 NotACommand\n"
