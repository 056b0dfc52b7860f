use Rattle.std.proofs.Common.{ℕ, List, None, sym, subst}
use Rattle.cad_clients.specs.Slots.{client_at}
use Rattle.cad_event_loop.specs.Turns.{settled}
use Rattle.cad_event_loop.specs.inner.Line.{standing_at, is_worked_on}
use Rattle.cad_event_loop.specs.inner.Standing.{flag_at, standings, standings_of, GivesPiece}
use Rattle.cad_event_loop.proofs.LineLemmas.{first_works}
use Rattle.cad_event_loop.proofs.GoesLemmas.{worked_hosts, worked_others, serves-so, worked_as, line_kept, line_room, line_says}
use Rattle.cad_event_loop.proofs.peers.Peers.work_on.Goals as goal

pub settle-requires : goal.settle-requires
settle-requires g c = λ works out. line_room c.args.c c.args.self.now.clients c.work_on-served.new.self c.args.self.now.line.numbers.items c.args.self.now.in_line (c.is_working.ensures.0 works) out

pub returns-clause-hosts : goal.returns-clause-hosts
returns-clause-hosts g c = λ office.
    let next = c.work_on-served.new.self in
    let flag = flag_at c.args.self.now.ready in
    let line = c.args.self.now.line.numbers.items in
    let first = standings c.args.self.now office in
    let works_on = first_works c.args.c (standing_at c.args.self.now.clients) line c.args.self.now.in_line c.requires in
    let own = worked_as (client_at next c.args.c) c.is_working.result c.is_working.ensures.0 c.is_working.ensures.1 in
    let lines = line_says c.args.c c.is_working.result next line c.settle.new.self.numbers.items own c.settle.ensures in
    serves-so g.R.Responder g.R.JournalResponder g.R.WorkingResponder.owes (GivesPiece c.args.c first (standings_of next office flag (settled c.args.c (is_worked_on (standing_at next c.args.c)) line))) (GivesPiece c.args.c first (standings_of next office flag c.settle.new.self.numbers.items)) None _ _
    c.args.desk.now c.work_on-served.new.desk _ _ (λ works. subst (λ (l : List ℕ). GivesPiece c.args.c first (standings_of next office flag l) works) (sym lines))
    (worked_hosts g.R.Responder g.R.JournalResponder g.R.WorkingResponder.owes g.N.Network.name c.args.c office flag line c.args.self.now.now c.work_on-served.result _ _ c.args.desk.now c.work_on-served.new.desk c.args.self.now.clients next works_on c.work_on-served.ensures.worked)

pub invariant_of-self : goal.invariant_of-self
invariant_of-self g c =
    let next = c.work_on-served.new.self in
    let others = worked_others g.R.Responder g.R.WorkingResponder.owes g.N.Network.name c.args.c c.args.self.now.now c.work_on-served.result c.args.desk.now c.work_on-served.new.desk c.args.self.now.clients next c.work_on-served.ensures.worked.0 c.work_on-served.ensures.worked.2 in
    let own = worked_as (client_at next c.args.c) c.is_working.result c.is_working.ensures.0 c.is_working.ensures.1 in
    record { in_line = line_kept c.args.c c.is_working.result c.args.self.now.clients next c.args.self.now.line.numbers.items c.settle.new.self.numbers.items c.args.self.now.in_line others own c.settle.ensures }
