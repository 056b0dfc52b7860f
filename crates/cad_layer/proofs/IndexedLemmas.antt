-- Features of a collection, the changes to them and what these stand in the place of, with more changes.
use Rattle.std.proofs.Common.{◌≡◌, ◌∙◌, List, ap, subst, sym}
use Rattle.std.specs.List.Sorted.{IsStrictlySortedBy}
use Rattle.cad_schema.specs.declared.collection.Collection.{Collection}
use Rattle.cad_feature.specs.Features.{AreFeaturesOf, Item, by_identifier}
use Rattle.cad_layer.specs.lemmas.ItemLemmas.{items_total}
use Rattle.cad_layer.specs.lemmas.ListedLemmas.{all_listed}
use Rattle.cad_layer.specs.inner.Replaced.{replaced_in}
use Rattle.cad_layer.specs.Walks.{all_in, IsInOrder}
use Rattle.cad_layer.proofs.ReplacedLemmas.{replaced_listed, replaced_merged, replaced_rises}

module _ (collection : Collection) (base older replaced : List Item) (is : replaced ≡ replaced_in by_identifier base older) (all : AreFeaturesOf collection base) (some : AreFeaturesOf collection older) (changes : List Item) (new : AreFeaturesOf collection changes) where
  -- what was replaced, and what is
  pub rises : IsInOrder replaced (replaced_in by_identifier base changes)
  rises = (
    subst (IsStrictlySortedBy by_identifier) (sym is) (replaced_rises by_identifier items_total base older all.ascending some.ascending),
    replaced_rises by_identifier items_total base changes all.ascending new.ascending,
  )

  pub with_listed : AreFeaturesOf collection (all_in older changes)
  with_listed = all_listed collection older changes some new

  pub with_replaced : all_in replaced (replaced_in by_identifier base changes) ≡ replaced_in by_identifier base (all_in older changes)
  with_replaced = ap (λ r. all_in r (replaced_in by_identifier base changes)) is ∙ sym (replaced_merged by_identifier items_total base older changes all.ascending some.ascending)

  pub replaced_with_listed : AreFeaturesOf collection (all_in replaced (replaced_in by_identifier base changes))
  replaced_with_listed = subst (AreFeaturesOf collection) (sym with_replaced) (replaced_listed collection base (all_in older changes) all with_listed.ascending)
