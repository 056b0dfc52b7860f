use Rattle.std.proofs.Common.{ℕ, false, List, Option, None, sym, ap, subst, ◌∙◌}
use Rattle.cad_clients.specs.declared.client.Client.{Client}
use Rattle.cad_event_loop.specs.Turns.{without}
use Rattle.cad_event_loop.specs.Works.{place_of}
use Rattle.cad_event_loop.specs.inner.Line.{standing_of, is_worked_on}
use Rattle.cad_event_loop.specs.inner.Standing.{flag_at, standings, standings_of, IsAtDoors}
use Rattle.cad_event_loop.proofs.GoesLemmas.{dropped_hosts, serves-nil, serves-so, closed_others, line_kept}
use Rattle.cad_event_loop.proofs.StandingLemmas.{doors-nil}
use Rattle.cad_event_loop.proofs.peers.Peers.drop_one.Goals as goal

pub returns-then-is_overdue-clause-hosts : goal.returns-then-is_overdue-clause-hosts
returns-then-is_overdue-clause-hosts g c = λ office.
    let next = c.close.new.self in
    let flag = flag_at c.args.self.now.ready in
    let line = c.args.self.now.line.numbers.items in
    let first = standings c.args.self.now office in
    serves-so g.R.Responder g.R.JournalResponder g.R.WorkingResponder.owes (IsAtDoors 1 first (standings_of next office flag (without c.args.c line))) (IsAtDoors 1 first (standings_of next office flag c.settle.new.self.numbers.items)) None _ _ c.args.desk.now c.close.new.desk _ _
    (λ works. subst (λ (l : List ℕ). IsAtDoors 1 first (standings_of next office flag l) works) (sym c.settle.ensures))
    (dropped_hosts g.R.Responder g.R.JournalResponder g.R.WorkingResponder.owes g.N.Network.name c.args.c office flag line _ _ c.args.desk.now c.close.new.desk c.args.self.now.clients next
    (λ none. c.args.self.now.in_line.each c.args.c ∙ ap (λ (o : Option (Client _ _)). is_worked_on (standing_of o)) none) c.close.ensures)

pub returns-else-is_overdue-clause-hosts : goal.returns-else-is_overdue-clause-hosts
returns-else-is_overdue-clause-hosts g c = λ office. serves-nil g.R.Responder g.R.JournalResponder g.R.WorkingResponder.owes (IsAtDoors 1 (standings c.args.self.now office) (standings c.args.self.now office)) (g.N.Network.history c.args.net.now) c.args.desk.now (place_of g.N.Network.name c.args.self.now.clients office) (doors-nil 1 (standings c.args.self.now office))

pub invariant_of-self : goal.invariant_of-self
invariant_of-self g c =
    let others = closed_others g.R.Responder g.N.Network.name c.args.c c.args.self.now.clients c.close.new.self c.args.desk.now c.close.new.desk c.close.ensures.0 c.close.ensures.2 in
    record { in_line = line_kept c.args.c false c.args.self.now.clients c.close.new.self c.args.self.now.line.numbers.items c.settle.new.self.numbers.items c.args.self.now.in_line others.0 (sym (ap is_worked_on others.1)) c.settle.ensures }
