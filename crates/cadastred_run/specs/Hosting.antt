-- A desk over a ledger at a network, and how hosting it ends a run (own profile).
use Rattle.std.specs.Prelude.{◌≡◌, ◌⊎◌, ℕ, List, [], Option, None, Some, Result, Ok, Err}
use Rattle.std.specs.Io.KnownBytes.{Appends}
use Rattle.std.specs.declared.net.socket_addr.SocketAddr.{SocketAddr}
use Rattle.cad_serve.specs.Arguments.{listening_line, IsBoundFor}
use Rattle.cad_serve.specs.Statuses.{EndsWithout}
use Rattle.cad_versions.specs.declared.fault.RegisterFault.{RegisterFault}
use Rattle.cad_versions.specs.declared.fault.RegisterFault.TheVariants as register
use Rattle.cad_versions.specs.declared.ledger.Ledger as ledger
use Rattle.cad_versions.specs.declared.journal_ledger.JournalLedger as journal_ledger
use Rattle.cad_stream.specs.declared.responder.Responder as responder
use Rattle.cad_stream.specs.declared.journal_responder.JournalResponder as journal_responder
use Rattle.cad_desk.specs.declared.desk.Desk.{Desk}
use Rattle.cad_desk.specs.Desks.{responder_of}
use Rattle.cad_server.specs.declared.server.Server.{Server}
use Rattle.cad_server.specs.Servers.{ledger_of}
use Rattle.cad_server.specs.Works.{reply_owed}
use Rattle.cadastre_run.specs.Preparing.{IsDeskReady, IsRefused}
use Rattle.cadastre_run.specs.Serving.{answers_of}
use Rattle.cad_event_loop.specs.declared.stopped.Stopped.{Stopped}
use Rattle.cad_event_loop.specs.declared.stopped.Stopped.TheVariants.{Asked, StoreRefused, RoundsSpent}
use Rattle.cad_event_loop.specs.Hosting.{HostsBy}
use Rattle.cad_network.specs.Deeds.{Deed, Adds}
use Rattle.cadastred_run.specs.declared.outcome.Outcome.{Outcome}
use Rattle.cadastred_run.specs.declared.outcome.Outcome.TheVariants as outcome
use Rattle.cadastred_run.specs.Chaining.{IsUnchained}
use Rattle.cadastred_run.specs.Journals.{journals_of}

-- how hosting ends a run
abbrev pub outcome_of_hosting : {E : Type 0} → Result Stopped E → Outcome
outcome_of_hosting (Ok Asked) = outcome.Good
outcome_of_hosting (Ok StoreRefused) = outcome.Register register.Store
outcome_of_hosting (Ok RoundsSpent) = outcome.Failed
outcome_of_hosting (Err error) = outcome.Failed

-- the requested address, what standard output holds before and after, and what was done at the network before and after
module _ (asked : SocketAddr) (before after : Option (List ℕ)) (from to : Option (List Deed)) where
  -- the line with the bound address is written, and nothing else
  abbrev pub TellsAddress : Type 0
  TellsAddress = (bound : SocketAddr) × IsBoundFor asked bound × Appends before after (listening_line bound)

  -- nothing is done at the network or asked of the desk
  abbrev pub IsUnhosted : {R : Type 0} → Desk R → Desk R → Type 0
  IsUnhosted old new = (new ≡ old) × Adds from to []

  -- The requested address is not bound, and nothing is written.
  -- Or the address is written, and then the desk is hosted until the office asks to stop, or the database refuses.
  -- Or the address cannot be written, and nothing is hosted. Or it is written and hosting failed, and the database did not refuse.
  abbrev pub EndsHosting : {R J W : Type 0} → responder.Ghosts R → journal_responder.Ghosts R J → (W → List ℕ) → Desk R → Outcome → Desk R → Type 0
  EndsHosting g j owes old outcome.Address new = (after ≡ before) × IsUnhosted old new
  EndsHosting g j owes old outcome.Good new = TellsAddress × HostsBy g j owes (Some Asked) from old to new
  EndsHosting g j owes old (outcome.Register fault) new = (fault ≡ register.Store) × TellsAddress × HostsBy g j owes (Some StoreRefused) from old to new
  EndsHosting g j owes old outcome.Failed new = IsUnhosted old new ⊎ (TellsAddress × (HostsBy g j owes None from old to new ⊎ HostsBy g j owes (Some Asked) from old to new))
  EndsHosting g j owes old other new = ⊥

  -- a desk over the ledger is hosted, and the ledger is given back
  pub record EndsHosted {L J : Type 0} (g : ledger.Ghosts L) (j : journal_ledger.Ghosts L J) (lent : L) (ended : Outcome × L) : Type 0 where
    pub old : Desk (Server L)
    pub new : Desk (Server L)
    pub ready : IsDeskReady g lent old
    pub hosting : EndsHosting (answers_of g) (journals_of j) reply_owed old ended.0 new
    pub back : ended.1 ≡ ledger_of (responder_of new)

  -- what the ledger stores is refused, and nothing is written or done at the network
  pub record EndsUnhosted {L J : Type 0} (g : ledger.Ghosts L) (j : journal_ledger.Ghosts L J) (lent : L) (ended : Outcome × L) : Type 0 where
    pub refused : RegisterFault × L
    pub why : IsRefused g lent refused ⊎ IsUnchained g j lent refused
    pub ends : EndsWithout ((after ≡ before) × Adds from to []) (outcome.Register refused.0) refused.1 ended

  -- there is no server over the ledger, or its desk is hosted
  abbrev pub HostsOver : {L J : Type 0} → ledger.Ghosts L → journal_ledger.Ghosts L J → L → Outcome × L → Type 0
  HostsOver g j lent ended = EndsUnhosted g j lent ended ⊎ EndsHosted g j lent ended
