-- Features of a collection in segments, each of the objects between two numbers (own profile).
use Rattle.std.specs.Prelude.{◌≡◌, ℕ, Bool, true, false, not, nat_le, List, [], ◌∷◌, ◌++◌, filter}
use Rattle.std.specs.List.{AllByRecursion}
use Rattle.std.proofs.Props.{props}
use mathlib.Core.HLevel.{×_prop}
use Rattle.cad_versions.specs.Objects.{object_number}
use Rattle.cad_schema.specs.declared.collection.Collection.{Collection}
use Rattle.cad_feature.specs.Features.{Item}
use Rattle.cad_layer.specs.Walks.{all_in}

-- features of the objects from its start on, up to where the next one starts
pub record SegmentFeatures : Type 0 where
  pub start : ℕ
  pub collection : Collection
  pub features : List Item

-- the features of the segments, one after the other
abbrev pub joined : List SegmentFeatures → List Item
joined [] = []
joined (s ∷ ss) = s.features ++ joined ss

-- it is of this object or of a later one
abbrev pub is_from : ℕ → Item → Bool
is_from start x = nat_le start (object_number x.object)

-- no feature of the segment is of the object with which the next one starts or of a later one, and all features of the others are
abbrev pub AreApart : SegmentFeatures → List SegmentFeatures → Type 0
AreApart s [] = Unit {0}
AreApart s (t ∷ ts) = AllByRecursion (λ x. is_from t.start x ≡ false) s.features × AllByRecursion (λ x. is_from t.start x ≡ true) (joined (t ∷ ts))

-- each segment ends before the next one starts
abbrev pub AreSegments : List SegmentFeatures → Type 0
AreSegments [] = Unit {0}
AreSegments (s ∷ ss) = AreApart s ss × AreSegments ss

apart_prop : (s : SegmentFeatures) (ss : List SegmentFeatures) → IsProp (AreApart s ss)
apart_prop s [] = Prim.hlevel props
apart_prop s (t ∷ ts) = Prim.hlevel props

pub segments_prop : (ss : List SegmentFeatures) → IsProp (AreSegments ss)
segments_prop [] = Prim.hlevel props
segments_prop (s ∷ ss) = ×_prop (apart_prop s ss) (segments_prop ss)

-- ---- with changes

-- the changes before the start of the next segment
abbrev pub own_of : List SegmentFeatures → List Item → List Item
own_of [] cs = cs
own_of (t ∷ ts) cs = filter (λ x. not (is_from t.start x)) cs

-- and the others
abbrev pub left_of : List SegmentFeatures → List Item → List Item
left_of [] cs = []
left_of (t ∷ ts) cs = filter (is_from t.start) cs

-- each segment with the changes that lie in it
abbrev pub with_in : List SegmentFeatures → List Item → List SegmentFeatures
with_in [] cs = []
with_in (s ∷ ss) cs = (record { start = s.start; collection = s.collection; features = all_in s.features (own_of ss cs) }) ∷ with_in ss (left_of ss cs)
