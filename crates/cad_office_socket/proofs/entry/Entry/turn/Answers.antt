use Rattle.std.proofs.Common.{◌≡◌, ◌<◌, true, [], length, refl, inl, arith, length-drop}
use Rattle.cad_network.specs.lemmas.DeedLemmas.{Adds-nil}
use Rattle.std.proofs.lemmas.List.{drop_all}
use Rattle.cad_office_socket.specs.Turns.{unread, unwritten, has_ended}
use Rattle.cad_office_socket.proofs.TurnLemmas.{fed_turn, sent_turn, journal_turn}
use Rattle.cad_office_socket.proofs.entry.Entry.turn.Goals as goal

pub returns-then-self-len-clause-turned : goal.returns-then-self-len-clause-turned
returns-then-self-len-clause-turned g c =
    let w = c.send.ensures in
    let entry = c.args.self.now in
    let sending : 0 < length (unwritten entry) =
    (let left = length-drop entry.output_at entry.output.items in let e = c.len.ensures in let f = c.if-self-len.true in omega (arith, left, e, f)) in
    (w.0, w.1, sent_turn g.R.Responder g.R.JournalResponder _ c.args.desk.now entry c.send.new.self c.send.result w.0 sending w.2)

pub returns-then-self-clause-turned : goal.returns-then-self-clause-turned
returns-then-self-clause-turned g c =
    let entry = c.args.self.now in
    let written = drop_all entry.output_at entry.output.items (let e = c.len.ensures in let f = c.if-self-len.false in omega (arith, e, f)) in
    let ended : has_ended entry ≡ true = rw (c.advance_journal.ensures.same c.in_default.is) at c.if-self.true in
    ([], Adds-nil _, (inl (refl, written, ended, c.advance_journal.ensures.quiet c.in_default.is), c.advance_journal.ensures.still c.in_default.is))

pub returns-then-self-len-2-clause-turned : goal.returns-then-self-len-2-clause-turned
returns-then-self-len-2-clause-turned g c =
    let entry = c.args.self.now in
    let same = c.advance_journal.ensures.same c.in_default.is in
    let still = c.advance_journal.ensures.still c.in_default.is in
    let written = drop_all entry.output_at entry.output.items (let e = c.len.ensures in let f = c.if-self-len.false in omega (arith, e, f)) in
    let few = rw same at c.len-2.ensures in
    let there = rw same at c.if-self-len-2.true in
    let some : 0 < length (unread entry) = (let left = length-drop entry.input_at entry.input.items in omega (arith, left, few, there)) in
    ([], Adds-nil _, fed_turn g.R.Responder g.R.JournalResponder _ c.args.desk.now c.feed_some.new.desk entry c.feed_some.new.self c.feed_some.result c.feed_some.ensures.ends written (c.advance_journal.ensures.quiet c.in_default.is) some (rw (same, still) at c.feed_some.ensures.fed) (rw same at c.feed_some.ensures.goes_on))

pub returns-in-Some-clause-turned : goal.returns-in-Some-clause-turned
returns-in-Some-clause-turned g c =
    let entry = c.args.self.now in
    let written = drop_all entry.output_at entry.output.items (let e = c.len.ensures in let f = c.if-self-len.false in omega (arith, e, f)) in
    ([], Adds-nil _, journal_turn g.R.Responder g.R.JournalResponder _ c.args.desk.now c.advance_journal.new.desk entry c.advance_journal.new.self c.in-Some.turned written c.in-Some.ensures.turn)
