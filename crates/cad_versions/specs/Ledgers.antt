-- What the calls of a ledger do (ISO 19152:2012, VersionedObject; own profile: revisions and refusals).
use Rattle.std.specs.Prelude.{◌≡◌, ◌⊎◌, ◌≤◌, ◌<◌, ℕ, ℤ, ◌+◌, List, [], ◌∷◌, ◌++◌, length, Vec, Some, None, Result, Err, IfOk, IfErr, OnOk}
use Rattle.std.specs.Global.{Global}
use Rattle.cad_versions.specs.declared.command.Command.{Command}
use Rattle.cad_versions.specs.declared.fault.RegisterFault.{RegisterFault}
use Rattle.cad_versions.specs.declared.fault.RegisterFault.TheVariants.{Store, UnknownRevision}
use Rattle.cad_versions.specs.Keeping.{IsAnswered, IsShut, NamesDamage}
use Rattle.cad_versions.specs.VersionedObject.{VersionedObject}
use Rattle.cad_versions.specs.Versions.{versions}
use Rattle.cad_versions.specs.Refusals.{refusal}
use Rattle.cad_versions.specs.AsOf.{as_of}
use Rattle.cad_versions.specs.Listing.{IsListing}

module _ {L : Type 0} (StandsFor : L → List Command → Type 0) (Counts Lives : L → Type 0) (Fails : L → L → Type 0) where
  -- an accepted command is added to those before it, and the revision counts it; a refused command is refused for its own cause, or for one
  -- of the ledger's store; it changes nothing, unless the store failed and is closed; a row that is named as damaged is damaged, no matter
  -- which commands the ledger holds
  pub record Applied (FailsToApply : List Command → Command → RegisterFault → Type 0) (Refuses : L → L → Command → ℕ → Type 0) (IsDamaged : L → L → Command → ℤ → ℤ → Type 0) (old : L) (command : Command) (result : Result ℕ RegisterFault) (new : L) : Type 0 where
    pub accepted : Counts new → IfOk result (λ revision. (commands : List Command) → StandsFor old commands → (refusal (versions commands) command ≡ None) × (revision ≡ length commands + 1) × StandsFor new (commands ++ command ∷ []))
    pub refused : Counts new → IfErr result (λ fault. (commands : List Command) → StandsFor old commands → (refusal (versions commands) command ≡ Some fault) ⊎ FailsToApply commands command fault)
    pub store : Counts new → result ≡ Err Store → (commands : List Command) → StandsFor old commands → Refuses old new command (length commands)
    pub damaged : IfErr result (NamesDamage (IsDamaged old new command))
    pub unchanged : Counts new → IfErr result (λ fault. (commands : List Command) → StandsFor old commands → StandsFor new commands ⊎ IsShut Lives Fails old fault new)
    pub clean : Counts new → Counts old

  -- what would be answered to a command that is not entered: the revision that it would make, or why it would be refused; the ledger
  -- remains what it was, unless its store failed and is closed
  pub record Checked (FailsToApply : List Command → Command → RegisterFault → Type 0) (Refuses : L → L → Command → ℕ → Type 0) (IsDamaged : L → L → Command → ℤ → ℤ → Type 0) (Remains : L → L → Type 0) (old : L) (command : Command) (result : Result ℕ RegisterFault) (new : L) : Type 0 where
    pub accepted : Counts new → IfOk result (λ revision. (commands : List Command) → StandsFor old commands → (refusal (versions commands) command ≡ None) × (revision ≡ length commands + 1))
    pub refused : Counts new → IfErr result (λ fault. (commands : List Command) → StandsFor old commands → (refusal (versions commands) command ≡ Some fault) ⊎ FailsToApply commands command fault)
    pub store : Counts new → result ≡ Err Store → (commands : List Command) → StandsFor old commands → Refuses old new command (length commands)
    pub damaged : IfErr result (NamesDamage (IsDamaged old new command))
    pub still : Counts new → OnOk result ((commands : List Command) → StandsFor old commands → Remains old new)
    pub kept : Counts new → OnOk result ((commands : List Command) → StandsFor old commands → StandsFor new commands)
    pub unchanged : Counts new → IfErr result (λ fault. (commands : List Command) → StandsFor old commands → StandsFor new commands ⊎ IsShut Lives Fails old fault new)
    pub clean : Counts new → Counts old

  -- the versions of a revision that was made are shown, in the order of identifiers; a revision is not shown for its own cause, or for one
  -- of the ledger's store; nothing changes then, unless the store failed and is closed; unless the store or memory is the cause, the ledger
  -- remains what it was; a row that is named as damaged is damaged, no matter which commands the ledger holds
  pub record Listed (FailsToList : ℕ → List Command → RegisterFault → Type 0) (Refuses : L → L → ℕ → Type 0) (IsDamaged : L → L → ℕ → ℤ → ℤ → Type 0) (Remains : L → L → Type 0) (old : L) (revision : ℕ) (result : Result (Vec VersionedObject Global) RegisterFault) (new : L) : Type 0 where
    pub shown : Counts new → IfOk result (λ found. (commands : List Command) → StandsFor old commands → (revision ≤ length commands) × (found.items ≡ as_of revision commands))
    pub ascending : IfOk result (λ found. IsListing found.items)
    pub cause : Counts new → IfErr result (λ fault. (commands : List Command) → StandsFor old commands → ((length commands < revision) × (fault ≡ UnknownRevision)) ⊎ ((revision ≤ length commands) × FailsToList revision commands fault))
    pub store : Counts new → result ≡ Err Store → Refuses old new revision
    pub damaged : IfErr result (NamesDamage (IsDamaged old new revision))
    pub still : Counts new → IsAnswered result → Remains old new
    pub kept : Counts new → OnOk result ((commands : List Command) → StandsFor old commands → StandsFor new commands)
    pub unchanged : Counts new → IfErr result (λ fault. (commands : List Command) → StandsFor old commands → StandsFor new commands ⊎ IsShut Lives Fails old fault new)
    pub clean : Counts new → Counts old
