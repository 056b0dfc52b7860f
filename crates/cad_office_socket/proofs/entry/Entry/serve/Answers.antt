use Rattle.std.proofs.Common.{◌≡◌, ℕ, subst, sym, ◌∙◌, arith}
use Rattle.cad_office_socket.specs.Serving.{most_turns}
use Rattle.cad_office_socket.specs.Turns.{unwritten}
use Rattle.cad_office_socket.proofs.ServeLemmas.{HadTurns, none_left, begins, all_spent, ended, went_out, went_on, has_read}
use Rattle.cad_office_socket.proofs.entry.Entry.serve.Goals as goal

pub loop-init : goal.loop-init
loop-init g c = begins g.R.Responder g.R.JournalResponder (g.N.Network.name c.args.socket.now) c.args.figures.now c.args.desk.now c.args.self.now (g.N.Network.history c.args.net.now)

pub returns-in-Some : goal.returns-in-Some
returns-in-Some g c =
    ended g.R.Responder g.R.JournalResponder _ c.args.figures.now c.args.desk.now c.args.self.now c.loop.counter _ _ _ c.loop.figures c.with_turn.result c.loop.desk c.turn-turned.new.desk c.loop.self c.turn-turned.new.self c.loop.invariant c.turn-turned.result c.turn-turned.ensures.turned c.turn-turned.ensures.shown c.with_turn.ensures
    c.in-Some.served (let test = c.loop-test.true in omega (arith, test)) (sym c.end_at.ensures ∙ c.in-Some.is)

pub returns-then-has_read : goal.returns-then-has_read
returns-then-has_read g c =
    has_read g.R.Responder g.R.JournalResponder _ c.args.figures.now c.args.desk.now c.args.self.now c.loop.counter _ _ _ c.loop.figures c.with_turn.result c.loop.desk c.turn-turned.new.desk c.loop.self c.turn-turned.new.self c.loop.invariant c.turn-turned.result c.turn-turned.ensures.turned c.turn-turned.ensures.shown c.with_turn.ensures
    (let test = c.loop-test.true in omega (arith, test)) (sym c.end_at.ensures ∙ c.in_default.is) (c.has_read.ensures c.if-has_read.true)

pub returns-then-not-is_sending : goal.returns-then-not-is_sending
returns-then-not-is_sending g c =
    let all = none_left (unwritten c.turn-turned.new.self) (λ sending. (let told = c.is_sending.ensures.1 sending in let not = c.if-not-is_sending.true in cc)) in
    went_out g.R.Responder g.R.JournalResponder _ c.args.figures.now c.args.desk.now c.args.self.now c.loop.counter _ _ _ c.loop.figures c.with_turn.result c.loop.desk c.turn-turned.new.desk c.loop.self c.turn-turned.new.self c.loop.invariant c.turn-turned.result c.turn-turned.ensures.turned c.turn-turned.ensures.shown c.with_turn.ensures
    (let test = c.loop-test.true in omega (arith, test)) (sym c.end_at.ensures ∙ c.in_default.is) (c.has_written.ensures c.if-has_written.true) all

pub loop-preserved : goal.loop-preserved
loop-preserved g c =
    went_on g.R.Responder g.R.JournalResponder _ c.args.figures.now c.args.desk.now c.args.self.now c.loop.counter _ _ _ c.loop.figures c.with_turn.result c.loop.desk c.turn-turned.new.desk c.loop.self c.turn-turned.new.self c.loop.invariant c.turn-turned.result c.turn-turned.ensures.turned c.turn-turned.ensures.shown c.with_turn.ensures
    (sym c.end_at.ensures ∙ c.in_default.is)

pub returns : goal.returns
returns g c =
    let most : c.loop.counter ≡ most_turns = (let test = c.loop-test.false in let end = c.loop.auto.counter-end in omega (arith, test, end)) in
    let had = subst (λ (n : ℕ). HadTurns g.R.Responder g.R.JournalResponder (g.N.Network.name c.args.socket.now) c.args.figures.now c.args.desk.now c.args.self.now n (g.N.Network.history c.args.net.now) (g.N.Network.history c.loop.net) c.loop.figures c.loop.desk c.loop.self) most c.loop.invariant in
    all_spent g.R.Responder g.R.JournalResponder _ c.args.figures.now c.args.desk.now c.args.self.now _ _ c.loop.figures c.loop.desk c.loop.self had
