-- A journal that a ledger gives back in pieces, between which it may accept commands (own profile).
use Rattle.std.specs.Prelude.{◌≡◌, ◌⊎◌, ◌≤◌, ◌<◌, ℕ, ℤ, ◌-◌, ◌==◌, Bool, List, [], ◌++◌, length, take, drop, Vec, Result, Err, IfOk, IfErr, OnOk, OnErr}
use Rattle.std.specs.Global.{Global}
use Rattle.cad_versions.specs.declared.command.Command.{Command}
use Rattle.cad_versions.specs.declared.fault.RegisterFault.{RegisterFault}
use Rattle.cad_versions.specs.declared.fault.RegisterFault.TheVariants.{Store, Memory, UnknownRevision}
use Rattle.cad_versions.specs.Keeping.{IsOfKeeping, IsShut, NamesDamage}
use Rattle.cad_versions.specs.Refusals.{AreAccepted}

module _ {R : Type 0} (HasRead : List Command → R → Type 0) where
  -- further commands change nothing of what a reading holds
  abbrev pub ReadingsStay : Type 0
  ReadingsStay = (commands later : List Command) (reading : R) → AreAccepted [] (commands ++ later) → HasRead commands reading → HasRead (commands ++ later) reading

module _ {R : Type 0} (HasRead : List Command → R → Type 0) (behind_of newest_of : R → ℕ) where
  -- it is of commands that the ledger holds
  abbrev pub ReadingsAreWithin : Type 0
  ReadingsAreWithin = (commands : List Command) (reading : R) → HasRead commands reading → (behind_of reading ≤ newest_of reading) × (newest_of reading ≤ length commands)

  -- a reading that is whole gives the commands after its revision, up to the one that was the newest when it began, and no others; for
  -- those that were read, only memory may run out
  pub record GivesJournal (reading : R) (result : Result (Vec Command Global) RegisterFault) : Type 0 where
    pub given : IfOk result (λ journal. (commands : List Command) → HasRead commands reading → journal.items ≡ drop (behind_of reading) (take (newest_of reading) commands))
    pub cause : IfErr result (λ fault. (commands : List Command) → HasRead commands reading → fault ≡ Memory)
    pub named : IfErr result IsOfKeeping

module _ {L R : Type 0} (StandsFor : L → List Command → Type 0) where
  -- a reading begins, of the commands after this revision, up to the newest; it does not if there is no such revision, or memory runs out
  pub record BeginsJournal (HasRead : List Command → R → Type 0) (behind_of newest_of rows_left : R → ℕ) (ledger : L) (behind : ℕ) (result : Result R RegisterFault) : Type 0 where
    pub begun : IfOk result (λ reading. (commands : List Command) → StandsFor ledger commands →
        (behind ≤ length commands) × (newest_of reading ≡ length commands) × (rows_left reading ≤ length commands) × HasRead commands reading)
    pub after : IfOk result (λ reading. behind_of reading ≡ behind)
    pub cause : IfErr result (λ fault. (commands : List Command) → StandsFor ledger commands → ((length commands < behind) × (fault ≡ UnknownRevision)) ⊎ ((behind ≤ length commands) × (fault ≡ Memory)))

module _ {R : Type 0} (behind_of newest_of rows_left : R → ℕ) where
  -- it is of the same revisions, and the next rows were read, at most so many
  pub record IsReadOn (most : ℕ) (before after : R) : Type 0 where
    pub behind_is : behind_of after ≡ behind_of before
    pub newest_is : newest_of after ≡ newest_of before
    pub left_is : rows_left after ≡ rows_left before - most

module _ {L R : Type 0} (StandsFor : L → List Command → Type 0) (Counts Lives : L → Type 0) (Fails Remains : L → L → Type 0) where
  -- the next rows are read, and the reading is whole once none is left; the ledger remains what it was; rows are not read for a cause of the
  -- ledger's store; then nothing changes, unless the store failed and is closed; a row that is named as damaged is damaged, no matter which
  -- commands the ledger holds
  pub record ReadsJournal (HasRead : List Command → R → Type 0) (behind_of newest_of rows_left : R → ℕ) (FailsToRead : List Command → RegisterFault → Type 0) (Refuses : L → L → R → ℕ → Type 0) (IsDamaged : L → L → R → ℕ → ℤ → ℤ → Type 0)
      (old : L) (before : R) (most : ℕ) (result : Result Bool RegisterFault) (new : L) (after : R) : Type 0 where
    pub held : Counts new → OnOk result ((commands : List Command) → StandsFor old commands → HasRead commands before → HasRead commands after)
    pub on : OnOk result (IsReadOn behind_of newest_of rows_left most before after)
    pub whole : IfOk result (λ whole. whole ≡ (rows_left after == 0))
    pub same : OnErr result (after ≡ before)
    pub cause : Counts new → IfErr result (λ fault. (commands : List Command) → StandsFor old commands → FailsToRead commands fault)
    pub named : IfErr result IsOfKeeping
    pub store : Counts new → result ≡ Err Store → Refuses old new before most
    pub damaged : IfErr result (NamesDamage (IsDamaged old new before most))
    pub still : Counts new → OnOk result (Remains old new)
    pub kept : Counts new → OnOk result ((commands : List Command) → StandsFor old commands → StandsFor new commands)
    pub unchanged : Counts new → IfErr result (λ fault. (commands : List Command) → StandsFor old commands → StandsFor new commands ⊎ IsShut Lives Fails old fault new)
    pub clean : Counts new → Counts old
