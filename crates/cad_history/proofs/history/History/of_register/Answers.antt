use Rattle.std.proofs.Common.{◌≡◌, ◌∙◌, nat_le, map, sym, ap, subst, refl}
use Rattle.cad_feature.specs.Features.{AreFeaturesOf}
use Rattle.cad_history.specs.Registers.{AreRowsOf}
use Rattle.cad_history.specs.Lent.{rows_of as lent_rows}
use Rattle.cad_history.specs.Rows.{Rows, row_count}
use Rattle.cad_history.specs.inner.Starting.{AreOrdered, items_in, rows_of}
use Rattle.cad_history.specs.lemmas.ShownLemmas.{starts}
use Rattle.cad_history.proofs.StartedLemmas.{counted_rows, of_commands}
use Rattle.cad_history.proofs.StartRowLemmas.{of_layers}
use Rattle.cad_history.proofs.history.History.of_register.Goals as goal

pub layers-requires : goal.layers-requires
layers-requires c = of_layers c.args.collection (AreFeaturesOf c.args.collection) (map items_in c.in_ok-last.earlier.items) c.in_ok-last.ensures.rows.each

pub of_layers-requires : goal.of_layers-requires
of_layers-requires c =
    let rows = rows_of c.args.collection c.args.newest c.in_ok-last.last.items (map items_in c.in_ok-last.earlier.items) in
    let made : Rows = record { collection = c.in_ok-last-2.last.collection; newest = c.in_ok-last-2.last.features; earlier = c.in_ok-earlier.earlier.items; last = c.args.newest } in
    let layer_is = c.in_ok-last-2.ensures in
    let layers_are = c.in_ok-earlier.ensures in
    let same : made ≡ rows = λ i. record { collection = (layer_is i).collection; newest = (layer_is i).features; earlier = layers_are i; last = c.args.newest } in
    counted_rows made (subst AreOrdered (sym same) c.in_ok-last.ensures.rows)
    (starts (row_count (lent_rows c.in_ok-last-2.last c.in_ok-earlier.earlier.items)) 18446744073709551615
    (ap (λ ls. nat_le (row_count (lent_rows c.in_ok-last-2.last ls)) 18446744073709551615) (sym c.deref.ensures.value) ∙ sym c.are_countable.ensures ∙ c.if-not-are_countable.false))

pub returns-clause-rows : goal.returns-clause-rows
returns-clause-rows c = λ commands accepted is count.
    let rows = rows_of c.args.collection c.args.newest c.in_ok-last.last.items (map items_in c.in_ok-last.earlier.items) in
    let layer_is = c.in_ok-last-2.ensures in
    let layers_are = c.in_ok-earlier.ensures in
    let same : c.of_layers.result ≡ rows = c.of_layers.ensures ∙ λ i. record { collection = (layer_is i).collection; newest = (layer_is i).features; earlier = layers_are i; last = c.args.newest } in
    subst (AreRowsOf commands) (sym same) (of_commands c.args.newest c.args.entries.now rows refl c.in_ok-last.ensures.shown commands accepted is count)
