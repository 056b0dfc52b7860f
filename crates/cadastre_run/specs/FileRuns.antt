-- How a run over a file ends (own profile).
use Rattle.std.specs.Prelude.{Result, Ok, Err}
use Rattle.cad_versions.specs.declared.fault.RegisterFault.{RegisterFault}
use Rattle.cadastre_run.specs.declared.outcome.Outcome.{Outcome}
use Rattle.cadastre_run.specs.declared.outcome.Outcome.TheVariants as outcome

-- it ends as its work did, or for the cause for which the file was not opened
abbrev pub outcome_of_run : {C : Type 0} → Result (Outcome × C) RegisterFault → Outcome
outcome_of_run (Ok ended) = ended.0
outcome_of_run (Err fault) = outcome.Register fault
