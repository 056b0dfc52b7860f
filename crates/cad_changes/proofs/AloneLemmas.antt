-- The feature of one version that stands alone.
use Rattle.std.proofs.Common.{◌≡◌, List, [], ◌∷◌, sym, subst, lit≤}
use Rattle.std.specs.List.{All}
use Rattle.std.specs.List.Sorted.{IsStrictlySortedBy}
use Rattle.std.proofs.lemmas.List.Elements.{All-from_recursion, recursion_from_All}
use Rattle.cad_versions.specs.Listing.{IsListing}
use Rattle.cad_versions.specs.VersionedObject.{VersionedObject, IsVersion}
use Rattle.cad_schema.specs.declared.collection.Collection.{Collection}
use Rattle.cad_schema.specs.declared.collection.Collection.TheVariants.{Units, Parties}
use Rattle.cad_feature.specs.Features.{Item, IsFeatureOf, AreFeaturesOf}
use Rattle.cad_changes.specs.Touching.{edited, names_joined}
use Rattle.cad_changes.proofs.FitLemmas.{edited_fits, joined_fit}

pub alone_listed : (v : VersionedObject) (vs : List VersionedObject) → vs ≡ v ∷ [] → IsVersion v → IsListing vs
unfolding IsStrictlySortedBy
alone_listed v vs is sound = subst IsListing (sym is) (record { ascending = (tt, tt); few = lit≤ tt; each = one })
  where
    one : All IsVersion (v ∷ [])
    one = All-from_recursion IsVersion (v ∷ []) (sound, tt)

module _ (units parties : List Item) (collection : Collection) (v : VersionedObject) where
  abbrev seen : Item → Item
  seen x = edited (names_joined units parties v) collection x

  pub alone_fits : (xs : List Item) (x y : Item) (rest : List Item) → xs ≡ x ∷ rest → y ≡ seen x → AreFeaturesOf collection xs → AreFeaturesOf Units units → AreFeaturesOf Parties parties → IsFeatureOf collection y
  alone_fits xs x y rest front is all us ps =
      edited_fits (names_joined units parties v) collection x y is (recursion_from_All (IsFeatureOf collection) (x ∷ rest) (subst (λ (l : List Item). All (IsFeatureOf collection) l) front all.each)).0
      (joined_fit units parties (recursion_from_All (IsFeatureOf Units) units us.each) (recursion_from_All (IsFeatureOf Parties) parties ps.each) v)
