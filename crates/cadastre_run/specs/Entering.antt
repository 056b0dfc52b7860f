-- Entering commands into a ledger, and how that ends a run (own profile).
use Rattle.std.specs.Prelude.{◌≡◌, ℕ, Bool, List, Option, Result, IsOk}
use Rattle.cad_versions.specs.declared.command.Command.{Command}
use Rattle.cad_versions.specs.declared.fault.RegisterFault.{RegisterFault}
use Rattle.cad_office.specs.declared.fault.OfficeFault.{OfficeFault}
use Rattle.cad_office.specs.Keeping.{AnswersLines, LinesAreAnswered, IsPaced}
use Rattle.cad_io.specs.Known.{ReadsAndWrites}
use Rattle.cadastre_run.specs.declared.outcome.Outcome.{Outcome}
use Rattle.cadastre_run.specs.Outcomes.{office_outcome_of}

-- the bytes written answer the lines read, and the run ends as the office's work did; if that reached its end, nothing is left unread
pub record EndsOffice {L : Type 0} (applies : L → Command → Result ℕ RegisterFault → L → Type 0) (from to before after : Option (List ℕ)) (AtEnd : Type 0) (old : L) (outcome : Outcome) (new : L) : Type 0 where
  pub result : Result Bool OfficeFault
  pub ends : outcome ≡ office_outcome_of result
  pub all : IsOk result → AtEnd
  pub kept : ReadsAndWrites from to before after (λ read written. LinesAreAnswered (AnswersLines applies old new) AtEnd result read written × IsPaced result read)
