-- How the end of the office's work is reported (own profile).
use Rattle.std.specs.Prelude.{ℕ, List, codes}
use Rattle.cad_office.specs.declared.fault.OfficeFault.{OfficeFault}
use Rattle.cad_office.specs.declared.fault.OfficeFault.TheVariants.{Read, Write, TurnsSpent, Register}

abbrev pub fault_number_and_name : OfficeFault → ℕ × List ℕ
fault_number_and_name Read = (1, codes "Read")
fault_number_and_name Write = (2, codes "Write")
fault_number_and_name TurnsSpent = (3, codes "TurnsSpent")
fault_number_and_name Register = (4, codes "Register")

abbrev pub fault_number : OfficeFault → ℕ
fault_number fault = (fault_number_and_name fault).0

abbrev pub fault_name : OfficeFault → List ℕ
fault_name fault = (fault_number_and_name fault).1
