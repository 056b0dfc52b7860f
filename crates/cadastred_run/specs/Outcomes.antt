-- How runs end (exit statuses: own profile).
use Rattle.std.specs.Prelude.{ℕ, Bool, true, false, List, [], codes, Result, Ok, Err}
use Rattle.std.specs.declared.io.ErrorKind.{ErrorKind}
use Rattle.std.specs.declared.io.ErrorKind.TheVariants.{OutOfMemory}
use Rattle.cad_office.specs.declared.fault.OfficeFault.{OfficeFault}
use Rattle.cad_office.specs.declared.fault.OfficeFault.TheVariants as office
use Rattle.cad_office.specs.OfficeFaults.{fault_number as office_fault_number, fault_name as office_fault_name}
use Rattle.cad_serve.specs.Statuses.{good, failed, wrong_arguments, no_register, no_address, of_register, of_serving, of_address, fault_line, line}
use Rattle.cad_versions.specs.declared.fault.RegisterFault.TheVariants.{Store}
use Rattle.cad_versions.specs.Fault.{fault_number, fault_name}
use Rattle.cadastred_run.specs.declared.outcome.Outcome.{Outcome}
use Rattle.cadastred_run.specs.declared.outcome.Outcome.TheVariants.{Good, Failed, Register, Usage, Address, Office, Refused, Lines}

-- the status of the process
abbrev pub status_of : Outcome → ℕ
status_of Good = good
status_of Failed = failed
status_of Usage = wrong_arguments
status_of (Register fault) = no_register
status_of Address = no_address
status_of Office = no_address
status_of Refused = failed
status_of (Lines fault) = failed

-- how a run ends if the system refuses the command line, by the cause
abbrev pub outcome_without_arguments : ErrorKind → Outcome
outcome_without_arguments OutOfMemory = Failed
outcome_without_arguments cause = Usage

-- the usage
abbrev pub usage : List ℕ
usage = codes "usage: cadastred [--chain] [--log] FILE ADDRESS OFFICE | --journal FILE | --check FILE | --help | --version"

-- the line on standard error that reports how a run ended
abbrev pub line_of : Outcome → List ℕ
line_of Good = []
line_of Failed = line (codes "host: failed")
line_of Usage = line usage
line_of Address = line of_address
line_of Office = line (codes "office")
line_of Refused = []
line_of (Lines fault) = fault_line of_serving (office_fault_number fault, office_fault_name fault)
line_of (Register fault) = fault_line of_register (fault_number fault, fault_name fault)

-- how checking lines ends a run
abbrev pub outcome_of_check : Result Bool OfficeFault → Outcome
outcome_of_check (Ok true) = Good
outcome_of_check (Ok false) = Refused
outcome_of_check (Err office.Read) = Lines office.Read
outcome_of_check (Err office.Write) = Lines office.Write
outcome_of_check (Err office.TurnsSpent) = Lines office.TurnsSpent
outcome_of_check (Err office.Register) = Register Store
