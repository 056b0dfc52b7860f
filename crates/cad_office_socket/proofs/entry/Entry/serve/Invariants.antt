use Rattle.cad_office_socket.proofs.ServeLemmas.{HadTurns}
use Rattle.cad_office_socket.proofs.entry.Entry.serve.Given as goal

abbrev pub invariant-loop : goal.invariant-loop
invariant-loop g l =
    HadTurns g.R.Responder g.R.JournalResponder (g.N.Network.name l.fn.socket) l.fn.figures l.fn.desk l.fn.self l.counter (g.N.Network.history l.fn.net) (g.N.Network.history l.net) l.figures l.desk l.self
