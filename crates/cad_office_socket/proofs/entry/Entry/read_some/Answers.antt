use Rattle.std.proofs.Common.{◌<◌, length, take, refl, inr, arith, length-take}
use Rattle.cad_office_socket.proofs.TurnLemmas.{last_turn}
use Rattle.cad_office_socket.proofs.entry.Entry.read_some.Goals as goal

pub returns-in_default-clause-turned : goal.returns-in_default-clause-turned
returns-in_default-clause-turned g c =
    let bytes = c.read.new.buffer in
    let bound = c.in-Ok.ensures.bound in
    let no_zero = c.in-Ok.count-test.1 in
    let taken = length-take c.in-Ok.count bytes in
    let some : 0 < length (take c.in-Ok.count bytes) = omega (arith, bound, no_zero, taken) in
    (_, c.in-Ok.ensures.done, (inr (inr (inr (_, refl, some, (c.requires.nothing_unwritten, c.requires.nothing_unread, c.requires.goes_on, c.requires.no_journal)))), refl))

pub returns-in-Ok-eq0-clause-turned : goal.returns-in-Ok-eq0-clause-turned
returns-in-Ok-eq0-clause-turned g c =
    let done = rw c.in-Ok-eq0.field-0-test at c.in-Ok-eq0.ensures.done in
    let requires = c.requires in
    (_, done, last_turn g.R.Responder g.R.JournalResponder _ c.args.desk.now c.end_input.new.desk c.args.self.now c.end_input.new.self c.end_input.result c.end_input.ensures.ends requires.nothing_unread requires.nothing_unwritten requires.no_journal requires.goes_on c.end_input.ensures.line c.end_input.ensures.over)
