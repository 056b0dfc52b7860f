use Rattle.std.proofs.Common.{◌≡◌, ℕ, false, List, sym, ap, subst, ◌∙◌}
use Rattle.cad_clients.specs.Slots.{client_at}
use Rattle.cad_event_loop.specs.Turns.{is_among, settled}
use Rattle.cad_event_loop.specs.inner.Line.{standing_at, is_worked_on}
use Rattle.cad_event_loop.specs.inner.Standing.{flag_at, standings, standings_of, GivesTurnAlone}
use Rattle.cad_event_loop.proofs.GoesLemmas.{served_hosts, served_others, serves-so, ready_at, worked_as, line_kept, line_room, line_says}
use Rattle.cad_event_loop.proofs.peers.Peers.serve_one.Goals as goal

pub settle-requires : goal.settle-requires
settle-requires g c = λ works out. line_room c.args.c c.args.self.now.clients c.serve-served.new.self c.args.self.now.line.numbers.items c.args.self.now.in_line (c.is_working.ensures.0 works) out

pub returns-clause-hosts : goal.returns-clause-hosts
returns-clause-hosts g c = λ office.
    let next = c.serve-served.new.self in
    let flag = flag_at c.args.self.now.ready in
    let line = c.args.self.now.line.numbers.items in
    let first = standings c.args.self.now office in
    let may = ready_at (client_at c.args.self.now.clients c.args.c) c.requires in
    let out : is_among c.args.c line ≡ false = c.args.self.now.in_line.each c.args.c ∙ ap is_worked_on may in
    let own = worked_as (client_at next c.args.c) c.is_working.result c.is_working.ensures.0 c.is_working.ensures.1 in
    let lines = line_says c.args.c c.is_working.result next line c.settle.new.self.numbers.items own c.settle.ensures in
    rw c.end_of.ensures
    (serves-so g.R.Responder g.R.JournalResponder g.R.WorkingResponder.owes (GivesTurnAlone c.args.c 4 first (standings_of next office flag (settled c.args.c (is_worked_on (standing_at next c.args.c)) line))) (GivesTurnAlone c.args.c 4 first (standings_of next office flag c.settle.new.self.numbers.items)) _ _ _
    c.args.desk.now c.serve-served.new.desk _ _ (λ works. subst (λ (l : List ℕ). GivesTurnAlone c.args.c 4 first (standings_of next office flag l) works) (sym lines))
    (served_hosts g.R.Responder g.R.JournalResponder g.R.WorkingResponder.owes g.N.Network.name c.args.c office flag line c.args.self.now.now c.serve-served.result _ _ c.args.desk.now c.serve-served.new.desk c.args.self.now.clients next may out c.serve-served.ensures.served))

pub invariant_of-self : goal.invariant_of-self
invariant_of-self g c =
    let next = c.serve-served.new.self in
    let others = served_others g.R.Responder g.R.WorkingResponder.owes g.N.Network.name c.args.c c.args.self.now.now c.serve-served.result c.args.desk.now c.serve-served.new.desk c.args.self.now.clients next c.serve-served.ensures.served.0 c.serve-served.ensures.served.2 in
    let own = worked_as (client_at next c.args.c) c.is_working.result c.is_working.ensures.0 c.is_working.ensures.1 in
    record { in_line = line_kept c.args.c c.is_working.result c.args.self.now.clients next c.args.self.now.line.numbers.items c.settle.new.self.numbers.items c.args.self.now.in_line others own c.settle.ensures }
