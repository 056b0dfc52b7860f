-- Reading all commands of a ledger, and keeping their chain (own profile).
use Rattle.std.specs.Prelude.{◌≡◌, ◌⊎◌, List, None, Result, IfOk, IfErr, OnOk}
use Rattle.cad_versions.specs.declared.command.Command.{Command}
use Rattle.cad_versions.specs.declared.fault.RegisterFault.{RegisterFault}
use Rattle.cad_versions.specs.declared.fault.RegisterFault.TheVariants.{Memory}
use Rattle.cad_versions.specs.declared.ledger.Ledger.{Ghosts}
use Rattle.cad_versions.specs.declared.journal_ledger.JournalLedger.{Ghosts as JournalGhosts}
use Rattle.cad_versions.specs.Keeping.{IsShut}
use Rattle.cad_server.specs.declared.records.Records.{Records}
use Rattle.cad_server.specs.declared.server.Server.{Server}
use Rattle.cad_server.specs.Keeping.{rows_in}
use Rattle.cad_server.specs.Servers.{ledger_in, AreRecordsOf}

-- a chain is kept
abbrev pub HasChainOf : {L : Type 0} → Records L → Type 0
HasChainOf records = ¬ (records.kept.totals.chain ≡ None)

-- the same of a server
abbrev pub HasChain : {L : Type 0} → Server L → Type 0
HasChain server = HasChainOf server.records

module _ {L J : Type 0} (g : Ghosts L) (j : JournalGhosts L J) where
  -- what is read of all commands that the ledger holds; it is not read for want of memory, or for a cause of the ledger's store, and then
  -- nothing changes, unless the store failed and is closed
  pub record ReadsAll {T : Type 0} (IsOf : List Command → T → Type 0) (old : L) (result : Result T RegisterFault) (new : L) : Type 0 where
    pub given : g.counts new → IfOk result (λ value. (commands : List Command) → g.stands_for old commands → IsOf commands value)
    pub cause : g.counts new → IfErr result (λ fault. (commands : List Command) → g.stands_for old commands → (fault ≡ Memory) ⊎ j.fails_to_read commands fault)
    pub still : g.counts new → OnOk result (g.remains old new)
    pub kept : g.counts new → OnOk result ((commands : List Command) → g.stands_for old commands → g.stands_for new commands)
    pub unchanged : g.counts new → IfErr result (λ fault. (commands : List Command) → g.stands_for old commands → g.stands_for new commands ⊎ IsShut g.lives g.fails old fault new)
    pub clean : g.counts new → g.counts old

  -- the chain of the commands is kept from then on, beside all that was kept; or it is not read
  pub record KeepsChain (old : Records L) (result : Result (Unit {0}) RegisterFault) (new : Records L) : Type 0 where
    pub chained : OnOk result (HasChainOf new)
    pub rows : rows_in new.kept ≡ rows_in old.kept
    pub cause : g.counts (ledger_in new) → IfErr result (λ fault. (commands : List Command) → AreRecordsOf g old commands → (fault ≡ Memory) ⊎ j.fails_to_read commands fault)
    pub still : g.counts (ledger_in new) → OnOk result (g.remains (ledger_in old) (ledger_in new))
    pub kept : g.counts (ledger_in new) → OnOk result ((commands : List Command) → AreRecordsOf g old commands → AreRecordsOf g new commands)
    pub unchanged : g.counts (ledger_in new) → IfErr result (λ fault. (commands : List Command) → AreRecordsOf g old commands → AreRecordsOf g new commands ⊎ IsShut g.lives g.fails (ledger_in old) fault (ledger_in new))
    pub clean : g.counts (ledger_in new) → g.counts (ledger_in old)

  -- the same of a server
  abbrev pub ServerKeepsChain : Server L → Result (Unit {0}) RegisterFault → Server L → Type 0
  ServerKeepsChain old result new = KeepsChain old.records result new.records
