-- How runs end (exit statuses: own profile).
use Rattle.std.specs.Prelude.{ℕ, Bool, true, false, List, [], codes, Result, Ok, Err}
use Rattle.std.specs.declared.io.ErrorKind.{ErrorKind}
use Rattle.std.specs.declared.io.ErrorKind.TheVariants.{OutOfMemory}
use Rattle.cad_desk.specs.declared.fault.DeskFault.TheVariants as desk
use Rattle.cad_desk.specs.Faults.{desk_fault_number, desk_fault_name}
use Rattle.cad_serve.specs.declared.ending.Ending.{Ending}
use Rattle.cad_serve.specs.declared.ending.Ending.TheVariants.{PeerEnded, WeEnded, Refused}
use Rattle.cad_serve.specs.declared.serve_fault.ServeFault.{ServeFault}
use Rattle.cad_serve.specs.Faults.{serve_fault_number, serve_fault_name}
use Rattle.cad_office.specs.declared.fault.OfficeFault.{OfficeFault}
use Rattle.cad_office.specs.declared.fault.OfficeFault.TheVariants as office
use Rattle.cad_office.specs.OfficeFaults.{fault_number as office_fault_number, fault_name as office_fault_name}
use Rattle.cad_versions.specs.declared.fault.RegisterFault.TheVariants as register
use Rattle.cad_versions.specs.Fault.{fault_number as register_fault_number, fault_name as register_fault_name}
use Rattle.cad_serve.specs.Statuses.{good, failed, wrong_arguments, no_register, no_address, of_serving, of_desk, of_register, of_address, fault_line, line}
use Rattle.cadastre_run.specs.declared.outcome.Outcome.{Outcome}
use Rattle.cadastre_run.specs.declared.outcome.Outcome.TheVariants as outcome

-- the status of the process
abbrev pub status_of : Outcome → ℕ
status_of outcome.Good = good
status_of outcome.Refused = failed
status_of (outcome.Serve fault) = failed
status_of (outcome.Office fault) = failed
status_of (outcome.Desk fault) = failed
status_of (outcome.Listened status) = status
status_of outcome.Usage = wrong_arguments
status_of (outcome.Register fault) = no_register
status_of outcome.Address = no_address

-- how the program is called
abbrev pub usage : List ℕ
usage = codes "usage: cadastre sample | office FILE | ask FILE | serve FILE ADDRESS COUNT"

-- the message about a run on standard error: what failed, by its fault's number and name, or a line of its own
abbrev pub line_of : Outcome → List ℕ
line_of outcome.Good = []
line_of outcome.Refused = []
line_of (outcome.Listened status) = []
line_of outcome.Usage = line usage
line_of outcome.Address = line of_address
line_of (outcome.Serve fault) = fault_line of_serving (serve_fault_number fault, serve_fault_name fault)
line_of (outcome.Office fault) = fault_line of_serving (office_fault_number fault, office_fault_name fault)
line_of (outcome.Desk fault) = fault_line of_desk (desk_fault_number fault, desk_fault_name fault)
line_of (outcome.Register fault) = fault_line of_register (register_fault_number fault, register_fault_name fault)

-- how a run ends if its command line cannot be read, by the cause
abbrev pub outcome_without_arguments : ErrorKind → Outcome
outcome_without_arguments OutOfMemory = outcome.Register register.Memory
outcome_without_arguments cause = outcome.Usage

-- how serving one connection ends a run; a refusal of the database is the register's fault
abbrev pub outcome_of : Result Ending ServeFault → Outcome
outcome_of (Ok PeerEnded) = outcome.Good
outcome_of (Ok WeEnded) = outcome.Good
outcome_of (Ok (Refused (desk.Register register.Store))) = outcome.Register register.Store
outcome_of (Ok (Refused fault)) = outcome.Desk fault
outcome_of (Err fault) = outcome.Serve fault

-- how the office ends a run
abbrev pub office_outcome_of : Result Bool OfficeFault → Outcome
office_outcome_of (Ok true) = outcome.Good
office_outcome_of (Ok false) = outcome.Refused
office_outcome_of (Err office.Read) = outcome.Office office.Read
office_outcome_of (Err office.Write) = outcome.Office office.Write
office_outcome_of (Err office.TurnsSpent) = outcome.Office office.TurnsSpent
office_outcome_of (Err office.Register) = outcome.Register register.Store
