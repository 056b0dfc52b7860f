use Rattle.std.proofs.Common.{◌∙◌, ap, ap₂, subst, sym}
use Rattle.std.specs.List.Sorted.{IsStrictlySortedBy}
use Rattle.cad_feature.specs.Features.{AreFeaturesOf, by_identifier}
use Rattle.cad_layer.specs.inner.Replaced.{replaced_in}
use Rattle.cad_layer.specs.Walks.{all_in}
use Rattle.cad_layer.proofs.ExtentLemmas.{within_more}
use Rattle.cad_layer.proofs.IndexedLemmas.{rises, with_listed, with_replaced}
use Rattle.cad_layer.proofs.recent.Recent.with.Goals as goal

pub with_later-requires-2 : goal.with_later-requires-2
with_later-requires-2 c =
    let f = c.args.indexed.now in
    let r = c.args.self.now in
    let up = rises f.collection f.features r.changes.items r.replaced.items c.requires.recent.2 c.requires.recent.0 c.requires.recent.1 c.args.touched.items c.requires.listed in
    let more = c.deref-6.ensures.value ∙ c.in_ok-more.ensures ∙ ap (replaced_in by_identifier f.features) (c.deref-4.ensures.value ∙ c.in_ok-touched.ensures) in
    (subst (IsStrictlySortedBy by_identifier) (sym c.deref-5.ensures.value) up.0, subst (IsStrictlySortedBy by_identifier) (sym more) up.1)

pub returns-clause-recent : goal.returns-clause-recent
returns-clause-recent c =
    let f = c.args.indexed.now in
    let r = c.args.self.now in
    let added = c.in_ok-changes.ensures ∙ ap₂ all_in c.deref-2.ensures.value (c.deref-3.ensures.value ∙ c.in_ok-touched.ensures) in
    let more = c.deref-6.ensures.value ∙ c.in_ok-more.ensures ∙ ap (replaced_in by_identifier f.features) (c.deref-4.ensures.value ∙ c.in_ok-touched.ensures) in
    let replaced = with_replaced f.collection f.features r.changes.items r.replaced.items c.requires.recent.2 c.requires.recent.0 c.requires.recent.1 c.args.touched.items c.requires.listed in (
      c.requires.recent.0,
      subst (AreFeaturesOf f.collection) (sym added) (with_listed f.collection f.features r.changes.items r.replaced.items c.requires.recent.2 c.requires.recent.0 c.requires.recent.1 c.args.touched.items c.requires.listed),
      c.in_ok-replaced.ensures ∙ ap₂ all_in c.deref-5.ensures.value more ∙ replaced ∙ ap (replaced_in by_identifier f.features) (sym added),
      within_more r.extents c.in_ok-extents.extents f.features r.changes.items c.args.touched.items c.deref.result.now c.in_ok-changes.changes.items c.deref.ensures.value added c.in_ok-extents.ensures.own c.in_ok-extents.ensures.more c.requires.recent.3,
    )
