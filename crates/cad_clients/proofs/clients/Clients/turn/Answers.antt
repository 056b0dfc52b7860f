use Rattle.std.proofs.Common.{◌≡◌, refl, sym, ◌∙◌, Some, None, ◌∷◌, [], ◌++◌, append-nil}
use Rattle.cad_network.specs.lemmas.DeedLemmas.{Adds-nil, Adds-trans}
use Rattle.cad_network.specs.Deeds.{left}
use Rattle.cad_clients.specs.declared.turned.Turned.TheVariants.{Worked}
use Rattle.cad_clients.specs.Slots.{client_at}
use Rattle.cad_clients.proofs.SlotLemmas.{put_back, none_taken}
use Rattle.cad_clients.proofs.TurnLemmas.{last_of, none_of, worked_less}
use Rattle.cad_clients.proofs.clients.Clients.turn.Goals as goal

pub returns-then-is_over-clause-turn : goal.returns-then-is_over-clause-turn
returns-then-is_over-clause-turn g c =
    let client = c.in_ok-client.client in
    let t = c.turn-turned.ensures.turn in
    let over = sym c.is_over.ensures ∙ c.if-is_over.true in
    let s = g.N.Network.name client.socket in
    let gone = rw (c.into_socket.ensures, c.turn-turned.ensures.socket) at c.let_go.ensures in
    (t.0 ++ left s ∷ [], Adds-trans _ _ _ t.0 (left s ∷ []) t.1 gone, (client, c.turn-turned.new.self, t.0, sym {a = Some client} c.in_ok-client.ensures.was, c.turn-turned.ensures.socket, t.2, rw (last_of c.turn-turned.result s over) refl, c.turn-turned.ensures.notes, λ d. rw over (c.take.ensures.rest d)))

pub returns-clause-turn : goal.returns-clause-turn
returns-clause-turn g c =
    let client = c.in_ok-client.client in
    let t = c.turn-turned.ensures.turn in
    let goes_on = sym c.is_over.ensures ∙ c.if-is_over.false in
    let s = g.N.Network.name client.socket in
    let changes = put_back c.args.self.now c.take.new.self c.put.new.self c.args.c (Some c.turn-turned.new.self) None c.take.ensures.rest c.put.ensures in
    (t.0, t.1, (client, c.turn-turned.new.self, t.0, sym {a = Some client} c.in_ok-client.ensures.was, c.turn-turned.ensures.socket, t.2, rw (none_of c.turn-turned.result s goes_on) (sym (append-nil t.0)), c.turn-turned.ensures.notes, λ d. rw goes_on (changes d)))

pub returns-in_err-client-clause-turn : goal.returns-in_err-client-clause-turn
returns-in_err-client-clause-turn g c =
    let none : client_at c.args.self.now c.args.c ≡ None = sym c.take.ensures.was ∙ c.in_err-client.was in
    rw c.from_residual.ensures ([], Adds-nil _, (none, refl, refl, none_taken c.args.self.now c.take.new.self c.args.c c.take.ensures.rest none))

pub returns-clause-less : goal.returns-clause-less
returns-clause-less g c = λ e.
    let client = c.in_ok-client.client in
    let worked : c.turn-turned.result ≡ Worked = cc in
    let changes = put_back c.args.self.now c.take.new.self c.put.new.self c.args.c (Some c.turn-turned.new.self) None c.take.ensures.rest c.put.ensures in
    worked_less g.R.WorkingResponder.remaining c.turn-turned.result c.args.self.now c.put.new.self c.args.c client c.turn-turned.new.self (sym {a = Some client} c.in_ok-client.ensures.was) changes c.turn-turned.ensures.less worked
