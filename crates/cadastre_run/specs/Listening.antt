-- Listening at an address over a ledger, and how that ends a run (own profile).
use Rattle.std.specs.Prelude.{◌≡◌, ◌⊎◌, ℕ, List, Option}
use Rattle.std.specs.Io.KnownBytes.{Appends}
use Rattle.std.specs.declared.net.socket_addr.SocketAddr.{SocketAddr}
use Rattle.std.specs.Net.Grammar.{IsSocketText}
use Rattle.cad_versions.specs.declared.ledger.Ledger as ledger
use Rattle.cad_stream.specs.declared.responder.Responder as responder
use Rattle.cad_desk.specs.declared.desk.Desk.{Desk}
use Rattle.cad_desk.specs.Desks.{responder_of}
use Rattle.cad_serve.specs.declared.serve_fault.ServeFault.TheVariants.{Write}
use Rattle.cad_io.specs.Known.{Writes}
use Rattle.cad_server.specs.declared.server.Server.{Server}
use Rattle.cad_server.specs.Servers.{ledger_of}
use Rattle.cad_serve.specs.Arguments.{listening_line, IsBoundFor}
use Rattle.cad_serve.specs.Listening.{Listens}
use Rattle.cadastre_run.specs.declared.command.Service.{Service}
use Rattle.cadastre_run.specs.declared.outcome.Outcome.{Outcome}
use Rattle.cadastre_run.specs.declared.outcome.Outcome.TheVariants as outcome
use Rattle.cadastre_run.specs.Preparing.{EndsRefused, IsDeskReady}
use Rattle.cadastre_run.specs.Serving.{answers_of}

-- what standard output and standard error hold before and after
module _ (service : Service) (before after quiet told : Option (List ℕ)) where
  -- nothing is written
  abbrev pub IsSilent : Type 0
  IsSilent = (after ≡ before) × (told ≡ quiet)

  -- the address cannot be read or bound, or cannot be reported; or it is reported, connections are taken there, and the run ends as
  -- listening does
  abbrev pub EndsListening : {P : Type 0} → responder.Ghosts P → Desk P → Outcome → Desk P → Type 0
  EndsListening g old outcome.Address new = (new ≡ old) × IsSilent
  EndsListening g old (outcome.Serve fault) new = (fault ≡ Write) × (new ≡ old) × (told ≡ quiet)
  EndsListening g old (outcome.Listened status) new =
      (command_line_read : SocketAddr) × (bound : SocketAddr) × IsSocketText service.address.now command_line_read × IsBoundFor command_line_read bound × Appends before after (listening_line bound)
      × Writes quiet told (Listens g service.count old status new)
  EndsListening g old other new = ⊥

  -- connections are served over the ledger, which is given back
  pub record EndsHeard {L : Type 0} (g : ledger.Ghosts L) (lent : L) (ended : Outcome × L) : Type 0 where
    pub old : Desk (Server L)
    pub new : Desk (Server L)
    pub ready : IsDeskReady g lent old
    pub listening : EndsListening (answers_of g) old ended.0 new
    pub back : ended.1 ≡ ledger_of (responder_of new)

  -- there is no server, and nothing is written; or the connections of its desk are served
  abbrev pub ListensOver : {L : Type 0} → ledger.Ghosts L → L → Outcome × L → Type 0
  ListensOver g lent ended = EndsRefused g outcome.Register IsSilent lent ended ⊎ EndsHeard g lent ended
