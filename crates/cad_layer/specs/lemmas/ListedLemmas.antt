-- A base of features of a collection with changes that are features of it.
use Rattle.std.proofs.Common.{◌≡◌, List, [], sym, subst, arith}
use Rattle.std.specs.List.Sorted.{IsStrictlySortedBy}
use Rattle.std.proofs.lemmas.List.Elements.{All-from_recursion, recursion_from_All}
use Rattle.cad_schema.specs.declared.collection.Collection.{Collection}
use Rattle.cad_feature.specs.Features.{Item, by_identifier, IsFeatureOf, AreFeaturesOf}
use Rattle.cad_layer.specs.lemmas.ItemLemmas.{items_total}
use Rattle.cad_layer.specs.lemmas.MergeLemmas.{all_merged, merged_ascends}
use Rattle.cad_layer.specs.Walks.{all_in}

pub all_listed : (collection : Collection) (base changes : List Item) → AreFeaturesOf collection base → AreFeaturesOf collection changes → AreFeaturesOf collection (all_in base changes)
all_listed collection base changes all some = record {
  each = All-from_recursion (IsFeatureOf collection) (all_in base changes)
      (all_merged by_identifier items_total (IsFeatureOf collection) base changes (recursion_from_All (IsFeatureOf collection) base all.each) (recursion_from_All (IsFeatureOf collection) changes some.each));
  ascending = merged_ascends by_identifier items_total base changes all.ascending;
}

-- the same for a list that equals them
pub listed_is : (collection : Collection) (base changes xs : List Item) → xs ≡ all_in base changes → AreFeaturesOf collection base → AreFeaturesOf collection changes → AreFeaturesOf collection xs
listed_is collection base changes xs is all some = subst (AreFeaturesOf collection) (sym is) (all_listed collection base changes all some)

pub none_listed : (collection : Collection) → AreFeaturesOf collection []
unfolding IsStrictlySortedBy
none_listed collection = record { each = λ k d h. absurd (omega (arith, h)); ascending = tt }
