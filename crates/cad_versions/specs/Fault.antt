-- How a refusal is reported (own profile).
use Rattle.std.specs.Prelude.{ℕ, List, codes}
use Rattle.cad_versions.specs.declared.fault.RegisterFault.{RegisterFault}
use Rattle.cad_versions.specs.declared.fault.RegisterFault.TheVariants.{KnownObject, UnknownObject, OtherClass, DayNotAfter, Retired, UnknownReference, Full, Damaged, NotARegister, Store, Memory, UnknownRevision}

-- the number by which programs identify the fault, and the name that they print
abbrev pub number_and_name : RegisterFault → ℕ × List ℕ
number_and_name KnownObject = (1, codes "KnownObject")
number_and_name UnknownObject = (2, codes "UnknownObject")
number_and_name OtherClass = (3, codes "OtherClass")
number_and_name (DayNotAfter day) = (4, codes "DayNotAfter")
number_and_name Retired = (5, codes "Retired")
number_and_name UnknownReference = (6, codes "UnknownReference")
number_and_name Full = (7, codes "Full")
number_and_name (Damaged object number) = (8, codes "Damaged")
number_and_name NotARegister = (9, codes "NotARegister")
number_and_name Store = (10, codes "Store")
number_and_name Memory = (11, codes "Memory")
number_and_name UnknownRevision = (12, codes "UnknownRevision")

abbrev pub fault_number : RegisterFault → ℕ
fault_number fault = (number_and_name fault).0

abbrev pub fault_name : RegisterFault → List ℕ
fault_name fault = (number_and_name fault).1
