-- A desk that is made over a ledger.
use Rattle.std.proofs.Common.{◌≡◌, ℕ, List, None, sym, ap, subst, ◌∙◌}
use Rattle.cad_versions.specs.declared.command.Command.{Command}
use Rattle.cad_versions.specs.declared.ledger.Ledger.{Ghosts}
use Rattle.cad_desk.specs.declared.desk.Desk.{Desk}
use Rattle.cad_desk.specs.Connections.{rest_at}
use Rattle.cad_desk.specs.Desks.{responder_of, connections_of}
use Rattle.cad_server.specs.declared.server.Server.{Server}
use Rattle.cad_server.specs.Servers.{ledger_of, IsServerOf}
use Rattle.cadastre_run.specs.Serving.{IsDeskOver}

module _ {L : Type 0} (g : Ghosts L) where
  -- a desk over a server that holds the commands that the ledger holds
  pub desk_over : (lent : L) (server : Server L) (desk : Desk (Server L)) → ((commands : List Command) → g.stands_for lent commands → IsServerOf g server commands) → ledger_of server ≡ lent
      → responder_of desk ≡ server → ((c : ℕ) → rest_at (connections_of desk) c ≡ None) → IsDeskOver g lent desk
  desk_over lent server desk made same answers idle = record {
    stands = λ commands stands. subst (λ (s : Server L). IsServerOf g s commands) (sym answers) (made commands stands);
    same = ap ledger_of answers ∙ same;
    idle = idle;
  }
