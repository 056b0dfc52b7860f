-- What a ledger that gives its stored versions does (ISO 19152:2012, VersionedObject; own profile: revisions).
use Rattle.std.specs.Prelude.{◌≡◌, ◌⊎◌, ℕ, ℤ, List, length, map, Vec, Result, Err, IfOk, IfErr, OnOk}
use Rattle.std.specs.Global.{Global}
use Rattle.cad_versions.specs.declared.command.Command.{Command}
use Rattle.cad_versions.specs.declared.fault.RegisterFault.{RegisterFault}
use Rattle.cad_versions.specs.declared.fault.RegisterFault.TheVariants.{Store}
use Rattle.cad_versions.specs.AsOf.{all_entries}
use Rattle.cad_versions.specs.Entries.{Entry, version_in}
use Rattle.cad_versions.specs.Keeping.{IsAnswered, IsShut, NamesDamage}
use Rattle.cad_versions.specs.Listing.{IsListing}

module _ {L : Type 0} (StandsFor : L → List Command → Type 0) (Counts Lives : L → Type 0) (Fails : L → L → Type 0) where
  -- the entries of all commands are listed, in the order of identifiers; they are not listed for a cause for which the newest revision is
  -- not; nothing changes then, unless the store failed and is closed; unless the store or memory is the cause, the ledger remains what it
  -- was; a row that is named as damaged is damaged, no matter which commands the ledger holds
  pub record ListsEntries (FailsToList : ℕ → List Command → RegisterFault → Type 0) (Refuses : L → L → ℕ → Type 0) (IsDamaged : L → L → ℕ → ℤ → ℤ → Type 0) (Remains : L → L → Type 0) (newest : ℕ) (old : L) (result : Result (Vec Entry Global) RegisterFault) (new : L) : Type 0 where
    pub shown : Counts new → IfOk result (λ found. (commands : List Command) → StandsFor old commands → found.items ≡ all_entries commands)
    pub ascending : IfOk result (λ found. IsListing (map version_in found.items))
    pub cause : Counts new → IfErr result (λ fault. (commands : List Command) → StandsFor old commands → FailsToList (length commands) commands fault)
    pub store : Counts new → result ≡ Err Store → Refuses old new newest
    pub damaged : IfErr result (NamesDamage (IsDamaged old new newest))
    pub still : Counts new → IsAnswered result → Remains old new
    pub same : Counts new → OnOk result ((commands : List Command) → StandsFor old commands → StandsFor new commands)
    pub unchanged : Counts new → IfErr result (λ fault. (commands : List Command) → StandsFor old commands → StandsFor new commands ⊎ IsShut Lives Fails old fault new)
    pub clean : Counts new → Counts old
