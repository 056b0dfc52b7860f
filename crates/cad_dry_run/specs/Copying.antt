-- A copy of a ledger, into which a journal is entered (own profile).
use Rattle.std.specs.Prelude.{◌≡◌, List, [], ◌∷◌, ◌++◌, Result, IfErr, OnOk}
use Rattle.cad_versions.specs.declared.command.Command.{Command}
use Rattle.cad_versions.specs.declared.fault.RegisterFault.{RegisterFault}
use Rattle.cad_versions.specs.declared.ledger.Ledger.{Ghosts}
use Rattle.cad_versions.specs.Refusals.{AreAccepted}

-- the ledger's store, and not one of the commands before, is why it refused one of these
abbrev pub IsOfStore : {L : Type 0} → Ghosts L → List Command → RegisterFault → Type 0
IsOfStore g commands fault = (before : List Command) × (command : Command) × (later : List Command) × (commands ≡ before ++ command ∷ later) × g.fails_to_apply before command fault

-- Commands are entered, one after the other: the ledger holds them after those that it held before.
-- Or it refused one of them, and if they are the next ones of a journal, then for a cause of its store alone.
pub record Enters {L : Type 0} (g : Ghosts L) (old : L) (commands : List Command) (result : Result (Unit {0}) RegisterFault) (new : L) : Type 0 where
  pub holds : g.counts new → OnOk result ((before : List Command) → g.stands_for old before → g.stands_for new (before ++ commands))
  pub refused : g.counts new → IfErr result (λ fault. (before : List Command) → g.stands_for old before → AreAccepted [] (before ++ commands) → IsOfStore g (before ++ commands) fault)
  pub clean : g.counts new → g.counts old
