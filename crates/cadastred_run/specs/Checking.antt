-- Checking lines on a copy of a ledger, and how that ends a run (own profile).
use Rattle.std.specs.Prelude.{◌≡◌, ℕ, Bool, List, Option, Result, Ok, Err, IsOk}
use Rattle.cad_versions.specs.declared.command.Command.{Command}
use Rattle.cad_versions.specs.declared.fault.RegisterFault.{RegisterFault}
use Rattle.cad_versions.specs.declared.ledger.Ledger.{Ghosts}
use Rattle.cad_versions.specs.LedgerCalls.{Applies}
use Rattle.cad_office.specs.declared.fault.OfficeFault.{OfficeFault}
use Rattle.cad_office.specs.Keeping.{IsPaced}
use Rattle.cad_dry_run.specs.Checking.{LinesAreReported, ReportsLines}
use Rattle.cad_dry_run.specs.Copying.{Enters}
use Rattle.cad_io.specs.Known.{ReadsAndWrites}
use Rattle.cadastred_run.specs.declared.outcome.Outcome.{Outcome}
use Rattle.cadastred_run.specs.declared.outcome.Outcome.TheVariants as outcome
use Rattle.cadastred_run.specs.Outcomes.{outcome_of_check}

-- what is left to read, and what was written, before and after
module _ (from to before after : Option (List ℕ)) where
  -- nothing is read or written
  abbrev pub IsUntouched : Type 0
  IsUntouched = (to ≡ from) × (after ≡ before)

  module _ (AtEnd : Type 0) {L : Type 0} (g : Ghosts L) where
    -- The bytes written report what the ledger answers to the lines read, one after the other. The run ends as that work did. If that
    -- reached its end, nothing is left unread.
    pub record EndsCheck (old : L) (ended : Outcome) (new : L) : Type 0 where
      pub result : Result Bool OfficeFault
      pub ends : ended ≡ outcome_of_check result
      pub all : IsOk result → AtEnd
      pub kept : ReadsAndWrites from to before after (λ read written. LinesAreReported (ReportsLines (Applies g) old new) AtEnd result read written × IsPaced result read)

    -- if the journal was entered, the lines are checked; else the run ends for the refusal
    abbrev pub EndsCopied : L → Result (Unit {0}) RegisterFault → Outcome → L → Type 0
    EndsCopied copy (Ok done) ended new = EndsCheck copy ended new
    EndsCopied copy (Err fault) ended new = (ended ≡ outcome.Register fault) × IsUntouched × (new ≡ copy)

    -- the commands of a journal are entered, and then lines are checked
    pub record ChecksOver (old : L) (journal : List Command) (ended : Outcome) (new : L) : Type 0 where
      pub copy : L
      pub entered : Result (Unit {0}) RegisterFault
      pub enters : Enters g old journal entered copy
      pub checks : EndsCopied copy entered ended new
