-- The numbers and names of the faults of a text that asks for days.
use Rattle.std.specs.Prelude.{ℕ, List, codes}
use Rattle.cad_day.specs.declared.fault.DatetimeFault.{DatetimeFault}
use Rattle.cad_day.specs.declared.fault.DatetimeFault.TheVariants.{NotADate, EndsTurned, Memory}

abbrev pub fault_number_and_name : DatetimeFault → ℕ × List ℕ
fault_number_and_name NotADate = (1, codes "NotADate")
fault_number_and_name EndsTurned = (2, codes "EndsTurned")
fault_number_and_name Memory = (3, codes "Memory")

abbrev pub fault_number : DatetimeFault → ℕ
fault_number fault = (fault_number_and_name fault).0

abbrev pub fault_name : DatetimeFault → List ℕ
fault_name fault = (fault_number_and_name fault).1
