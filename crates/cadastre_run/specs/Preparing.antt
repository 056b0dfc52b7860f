-- A server that has read what its ledger stores, unless a row is damaged (own profile).
use Rattle.std.specs.Prelude.{◌≡◌, ◌⊎◌, ℕ, Bool, true, false, List, None, Result, Ok, Err}
use Rattle.cad_versions.specs.declared.command.Command.{Command}
use Rattle.cad_versions.specs.declared.fault.RegisterFault.{RegisterFault}
use Rattle.cad_versions.specs.declared.fault.RegisterFault.TheVariants.{Memory}
use Rattle.cad_versions.specs.declared.ledger.Ledger.{Ghosts}
use Rattle.cad_desk.specs.declared.desk.Desk.{Desk}
use Rattle.cad_desk.specs.Connections.{rest_at}
use Rattle.cad_desk.specs.Desks.{responder_of, connections_of}
use Rattle.cad_serve.specs.Statuses.{EndsWithout}
use Rattle.cad_server.specs.declared.server.Server.{Server}
use Rattle.cad_server.specs.Servers.{is_damage, ledger_of, IsServerOf, ServerPrepares}

module _ {L : Type 0} (g : Ghosts L) where
  -- a server was made over the ledger that is lent, and has read what the ledger stores, or was refused it
  pub record HasRead (lent : L) (result : Result (Unit {0}) RegisterFault) (server : Server L) : Type 0 where
    pub new : Server L
    pub stands : (commands : List Command) → g.stands_for lent commands → IsServerOf g new commands
    pub same : ledger_of new ≡ lent
    pub reads : ServerPrepares g new result server

  -- a row is damaged, so that the server refuses requests for the features of revisions that have it, and answers all others
  pub record IsDamaged (lent : L) (server : Server L) : Type 0 where
    pub fault : RegisterFault
    pub damage : is_damage fault ≡ true
    pub read : HasRead lent (Err fault) server

  -- a server that has read what the ledger stores, or not, since a row is damaged
  abbrev pub StartsWith : Bool → L → Server L → Type 0
  StartsWith true lent server = HasRead lent (Ok tt) server
  StartsWith false lent server = IsDamaged lent server

  abbrev pub HasStarted : L → Server L → Type 0
  HasStarted lent server = HasRead lent (Ok tt) server ⊎ IsDamaged lent server

  -- there is no memory for a server, or what the ledger stores is refused for another cause than damage; the ledger is given back with the fault
  abbrev pub IsRefused : L → RegisterFault × L → Type 0
  IsRefused lent refused = (refused ≡ (Memory, lent)) ⊎ ((server : Server L) × HasRead lent (Err refused.0) server × (refused.1 ≡ ledger_of server) × (is_damage refused.0 ≡ false))

  abbrev pub OpensServer : L → Result (Server L × Bool) (RegisterFault × L) → Type 0
  OpensServer lent (Ok started) = StartsWith started.1 lent started.0
  OpensServer lent (Err refused) = IsRefused lent refused

  -- a desk without connections, whose server has started
  pub record IsDeskReady (lent : L) (desk : Desk (Server L)) : Type 0 where
    pub started : HasStarted lent (responder_of desk)
    pub idle : (c : ℕ) → rest_at (connections_of desk) c ≡ None

  -- the run ends for what is refused
  pub record EndsRefused {O : Type 0} (cause : RegisterFault → O) (NothingDone : Type 0) (lent : L) (ended : O × L) : Type 0 where
    pub refused : RegisterFault × L
    pub why : IsRefused lent refused
    pub ends : EndsWithout NothingDone (cause refused.0) refused.1 ended
