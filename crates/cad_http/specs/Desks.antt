-- The parts of a desk over a register that clauses use (own profile).
use Rattle.std.specs.Prelude.{◌≡◌, ℕ, List, None}
use Rattle.cad_versions.specs.declared.command.Command.{Command}
use Rattle.cad_versions.specs.declared.ledger.Ledger.{Ghosts}
use Rattle.cad_desk.specs.declared.desk.Desk.{Desk as ResponderDesk}
use Rattle.cad_desk.specs.Connections.{rest_at}
use Rattle.cad_desk.specs.Desks.{responder_of, connections_of}
use Rattle.cad_server.specs.declared.server.Server.{Server}
use Rattle.cad_server.specs.Servers.{ledger_of, IsServerOf}
use Rattle.cad_http.specs.declared.desk.Desk.{Desk}

-- the connections, with the server that answers them
abbrev pub server_desk : {L : Type 0} → Desk L → ResponderDesk (Server L)
server_desk desk = desk.connections

-- the register
abbrev pub register_of : {L : Type 0} → Desk L → L
register_of desk = ledger_of (responder_of (server_desk desk))

-- its requests are answered with these commands in force
abbrev pub IsDeskOf : {L : Type 0} → Ghosts L → Desk L → List Command → Type 0
IsDeskOf g desk commands = IsServerOf g (responder_of (server_desk desk)) commands

-- no connection is open
abbrev pub IsIdle : {L : Type 0} → Desk L → Type 0
IsIdle desk = (c : ℕ) → rest_at (connections_of (server_desk desk)) c ≡ None
