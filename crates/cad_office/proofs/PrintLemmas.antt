-- The pieces of a refusal.
use Rattle.std.proofs.Common.{◌≡◌, ℕ, ℤ, List, [], ◌++◌, codes, refl}
use Rattle.std.specs.Prelude.{decimal}
use Rattle.std.specs.Fmt.{signed_decimal}
use Rattle.cad_day.specs.declared.day.Day.{Day}
use Rattle.cad_day.specs.Days.{number_of}
use Rattle.cad_day.specs.DayTexts.{day_text}
use Rattle.cad_versions.specs.declared.fault.RegisterFault.{RegisterFault}
use Rattle.cad_versions.specs.declared.fault.RegisterFault.TheVariants.{DayNotAfter, Damaged}
use Rattle.cad_versions.specs.Fault.{fault_number, fault_name}
use Rattle.cad_office.specs.declared.print.Answer.TheVariants.{Refused}
use Rattle.cad_office.specs.Answers.{printed}

pub day_pieces : (fault : RegisterFault) (day : Day) (refused number blank name text end : List ℕ) → fault ≡ DayNotAfter day → refused ≡ codes "refused " → number ≡ decimal (fault_number fault) → blank ≡ codes " " → name ≡ fault_name fault → text ≡ day_text (number_of day) → end ≡ codes "\n" → refused ++ (number ++ (blank ++ (name ++ (blank ++ (text ++ (end ++ [])))))) ≡ printed (Refused fault)
day_pieces fault day refused number blank name text end is a b c d e f = rw (a, b, c, d, e, f, is) refl

pub damage_pieces : (fault : RegisterFault) (object version : ℤ) (refused number blank name left point right end : List ℕ) → fault ≡ Damaged object version → refused ≡ codes "refused " → number ≡ decimal (fault_number fault) → blank ≡ codes " " → name ≡ fault_name fault → left ≡ signed_decimal object → point ≡ codes "." → right ≡ signed_decimal version → end ≡ codes "\n" → refused ++ (number ++ (blank ++ (name ++ (blank ++ (left ++ (point ++ (right ++ (end ++ [])))))))) ≡ printed (Refused fault)
damage_pieces fault object version refused number blank name left point right end is a b c d e f g h = rw (a, b, c, d, e, f, g, h, is) refl
