use Rattle.std.proofs.Common.{◌∙◌, map, nat_le, ap, subst, sym}
use Rattle.cad_feature.specs.Features.{AreFeaturesOf}
use Rattle.cad_history.specs.Lent.{rows_of}
use Rattle.cad_history.specs.Rows.{row_count}
use Rattle.cad_history.specs.inner.Ending.{ended, replaced_by, with_ended}
use Rattle.cad_history.specs.lemmas.ShownLemmas.{starts}
use Rattle.cad_history.proofs.NewRowLemmas.{ended_are, begun_are, are_new, is_next}
use Rattle.cad_history.proofs.history.History.next.Goals as goal

pub with_rows-requires-clause-listed : goal.with_rows-requires-clause-listed
with_rows-requires-clause-listed c =
    subst (λ k. AreFeaturesOf k c.in_ok-rows.rows.items) (sym c.collection-collection.ensures.collection)
    (ended_are c.args.revision c.requires.few c.args.touched.items _ c.args.self.now c.self.view_is c.requires.later c.self.invariant c.requires.listed c.in_ok-rows.rows.items
    (c.in_ok-rows.ensures ∙ ap (λ ts. map (ended c.args.revision) (replaced_by ts c.self.inside.newest.features)) c.deref.ensures.value))

pub with-requires : goal.with-requires
with-requires c = begun_are c.args.revision c.requires.few c.args.touched.items _ c.args.self.now c.self.view_is c.requires.later c.self.invariant c.requires.listed c.in_ok-begun.begun.items c.in_ok-begun.ensures

pub of_layers-requires : goal.of_layers-requires
of_layers-requires c =
    are_new c.args.revision c.requires.few c.args.touched.items _ c.args.self.now c.self.view_is c.requires.later c.self.invariant c.requires.listed c.in_ok-newest.newest c.in_ok-earlier.earlier.items c.in_ok-rows.rows.items c.in_ok-begun.begun.items
    (c.in_ok-rows.ensures ∙ ap (λ ts. map (ended c.args.revision) (replaced_by ts c.self.inside.newest.features)) c.deref.ensures.value) c.in_ok-begun.ensures
    (c.in_ok-earlier.ensures ∙ ap (λ k. with_ended k c.deref-2.result.now c.in_ok-rows.rows.items) c.collection-collection.ensures.collection ∙ ap (λ ls. with_ended c.self.inside.newest.collection ls c.in_ok-rows.rows.items) c.deref-2.ensures.value)
    c.in_ok-newest.ensures (starts (row_count (rows_of c.in_ok-newest.newest c.in_ok-earlier.earlier.items)) 18446744073709551615
    (ap (λ ls. nat_le (row_count (rows_of c.in_ok-newest.newest ls)) 18446744073709551615) (sym c.deref-3.ensures.value) ∙ sym c.are_countable.ensures ∙ c.if-not-are_countable.false))

pub returns : goal.returns
returns c =
    is_next c.args.revision c.requires.few c.args.touched.items _ c.args.self.now c.self.view_is c.requires.later c.self.invariant c.requires.listed c.in_ok-newest.newest c.in_ok-earlier.earlier.items c.in_ok-rows.rows.items c.in_ok-begun.begun.items
    (c.in_ok-rows.ensures ∙ ap (λ ts. map (ended c.args.revision) (replaced_by ts c.self.inside.newest.features)) c.deref.ensures.value) c.in_ok-begun.ensures
    (c.in_ok-earlier.ensures ∙ ap (λ k. with_ended k c.deref-2.result.now c.in_ok-rows.rows.items) c.collection-collection.ensures.collection ∙ ap (λ ls. with_ended c.self.inside.newest.collection ls c.in_ok-rows.rows.items) c.deref-2.ensures.value)
    c.in_ok-newest.ensures c.of_layers.result c.of_layers.ensures
