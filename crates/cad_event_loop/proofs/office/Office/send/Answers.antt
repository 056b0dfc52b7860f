use Rattle.std.proofs.Common.{[], ◌∷◌, ◌++◌, refl, sym, ◌∙◌, append-nil}
use Rattle.cad_network.specs.Deeds.{left}
use Rattle.cad_network.specs.lemmas.DeedLemmas.{Adds-trans}
use Rattle.cad_event_loop.proofs.office.Office.send.Goals as goal

pub returns-then-is_last : goal.returns-then-is_last
returns-then-is_last g c =
    let t = c.send-turned.ensures in
    let over = sym c.is_last.ensures ∙ c.if-is_last.true in
    (t.0 ++ left (g.N.Network.name c.args.self.socket) ∷ [], Adds-trans _ _ _ t.0 _ t.1 c.let_go.ensures, (c.send-turned.new.self, t.0, c.requires, t.2, rw over refl, rw over refl))

pub returns : goal.returns
returns g c =
    let t = c.send-turned.ensures in
    let goes_on = sym c.is_last.ensures ∙ c.if-is_last.false in
    (t.0, t.1, (c.send-turned.new.self, t.0, c.requires, t.2, rw goes_on (sym (append-nil t.0)), rw goes_on refl))
