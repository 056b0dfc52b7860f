-- The calls of a ledger, as its own contract describes them.
use Rattle.std.specs.Prelude.{◌≡◌, ◌⊎◌, ℕ, List, Result, Ok, Err}
use Rattle.cad_versions.specs.declared.command.Command.{Command}
use Rattle.cad_versions.specs.declared.fault.RegisterFault.{RegisterFault}
use Rattle.cad_versions.specs.declared.ledger.Ledger.{Ghosts}
use Rattle.cad_versions.specs.Ledgers.{Applied, Checked}

-- the second answer is the first one, or the ledger's store itself refused one of the two
abbrev pub IsForetold : (RegisterFault → Type 0) → Result ℕ RegisterFault → Result ℕ RegisterFault → Type 0
IsForetold IsOfStore (Ok revision) (Ok other) = other ≡ revision
IsForetold IsOfStore (Ok revision) (Err fault) = IsOfStore fault
IsForetold IsOfStore (Err fault) (Ok revision) = IsOfStore fault
IsForetold IsOfStore (Err fault) (Err other) = (other ≡ fault) ⊎ (IsOfStore fault ⊎ IsOfStore other)

module _ {L : Type 0} (g : Ghosts L) where
  -- a call of `apply` on the ledger
  abbrev pub Applies : L → Command → Result ℕ RegisterFault → L → Type 0
  Applies = Applied g.stands_for g.counts g.lives g.fails g.fails_to_apply g.refuses_command g.damaged_for_command

  -- a call of `check`
  abbrev pub Checks : L → Command → Result ℕ RegisterFault → L → Type 0
  Checks = Checked g.stands_for g.counts g.lives g.fails g.fails_to_apply g.refuses_command g.damaged_for_command g.remains

  -- what is answered when a command is checked is what is answered when it is applied next
  abbrev pub ChecksForetell : Type 0
  ChecksForetell = (commands : List Command) (command : Command) (old mid new : L) (told answer : Result ℕ RegisterFault) → g.stands_for old commands → g.stands_for mid commands
      → Checks old command told mid → g.counts mid → Applies mid command answer new → g.counts new
      → IsForetold (g.fails_to_apply commands command) told answer
