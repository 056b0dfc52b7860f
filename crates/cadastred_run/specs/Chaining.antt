-- A server over a ledger that keeps the chain of its commands (own profile).
use Rattle.std.specs.Prelude.{◌≡◌, ◌⊎◌, Bool, true, Result, Ok, Err}
use Rattle.cad_versions.specs.declared.fault.RegisterFault.{RegisterFault}
use Rattle.cad_versions.specs.declared.ledger.Ledger.{Ghosts}
use Rattle.cad_versions.specs.declared.journal_ledger.JournalLedger.{Ghosts as JournalGhosts}
use Rattle.cad_server.specs.declared.server.Server.{Server}
use Rattle.cad_server.specs.Servers.{ledger_of}
use Rattle.cad_server.specs.Chaining.{ServerKeepsChain, HasChain}
use Rattle.cadastre_run.specs.Preparing.{HasRead, IsDamaged, IsRefused}

module _ {L J : Type 0} (g : Ghosts L) (j : JournalGhosts L J) where
  -- all was read, but not the commands for the chain; the ledger is given back with the fault
  abbrev pub IsUnchained : L → RegisterFault × L → Type 0
  IsUnchained lent refused = (read : Server L) × (server : Server L) × HasRead g lent (Ok tt) read × ServerKeepsChain g j read (Err refused.0) server × (refused.1 ≡ ledger_of server)

  -- a server that has read what the ledger stores, with the chain if it is asked for; or a row is damaged; or what the ledger stores is refused
  abbrev pub OpensChained : Bool → L → Result (Server L) (RegisterFault × L) → Type 0
  OpensChained chains lent (Ok server) = (HasRead g lent (Ok tt) server × (chains ≡ true → HasChain server)) ⊎ IsDamaged g lent server
  OpensChained chains lent (Err refused) = IsRefused g lent refused ⊎ IsUnchained lent refused
