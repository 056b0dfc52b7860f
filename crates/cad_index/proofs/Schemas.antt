-- One index after the other, in the order of a schema.
use Rattle.std.proofs.Common.{◌≡◌, ◌∙◌, ℕ, zero, suc, ◌+◌, ◌<◌, List, [], ◌∷◌, ◌++◌, append_assoc, length, map, get_or, drop, add-one, ap, sym, refl, arith, Some}
use Rattle.std.specs.Prelude.{slice_get}
use Rattle.std.specs.List.{All}
use Rattle.cad_schema.specs.declared.collection.Collection.{Collection}
use Rattle.cad_schema.specs.declared.property.Property.{Property}
use Rattle.cad_feature.specs.Features.{Item, FitSchema, AreFeaturesOf}
use Rattle.cad_schema.specs.Attributes.{Named}
use Rattle.cad_schema.specs.Schema.{property_of, schema_of}
use Rattle.cad_feature.specs.Values.{Datum, null, IsOfKind}
use Rattle.cad_ordered.specs.Ranged.{value_at}
use Rattle.cad_index.specs.declared.index.Index.{Index}
use Rattle.cad_index.specs.declared.index.Index.TheVariants.{Unindexed}
use Rattle.cad_index.specs.Indexed.{index_of, indexes_from}

-- ---- kinds of values

fits_at : (ps : List Named) (ds : List Datum) (i : ℕ) (p : Named) → FitSchema ps ds → slice_get ps i ≡ Some p → IsOfKind p.1 (get_or ds i null)
fits_at [] ds i p f e = cc
fits_at (q ∷ ps) [] i p f e = absurd f
fits_at (q ∷ ps) (d ∷ ds) zero p f e = let h : q ≡ p = cc in rw h at f.0
fits_at (q ∷ ps) (d ∷ ds) (suc i) p f e = fits_at ps ds i p f.1 e

all_of_kind : (collection : Collection) (xs : List Item) (place : ℕ) (p : Named) → AreFeaturesOf collection xs → slice_get (schema_of collection) place ≡ Some p → All (λ x. IsOfKind p.1 (value_at place x)) xs
all_of_kind collection xs place p listed e = λ k d h. fits_at (schema_of collection) _ place p ((listed.each k d h).fits) e

-- ---- properties of a schema

property_got : (items : List Property) (i : ℕ) (d : Property) → i < length items → slice_get (map property_of items) i ≡ Some (property_of (get_or items i d))
property_got [] i d h = absurd (omega arith)
property_got (x ∷ xs) zero d h = refl
property_got (x ∷ xs) (suc i) d h = property_got xs i d (omega arith)

named_at : (ps : List Named) (items : List Property) (i : ℕ) (d : Property) → map property_of items ≡ ps → i < length items → slice_get ps i ≡ Some (property_of (get_or items i d))
named_at ps items i d e h = rw (← e) (property_got items i d h)

pub alike_at : (collection : Collection) (xs : List Item) (items : List Property) (place : ℕ) (d : Property) → map property_of items ≡ schema_of collection → place < length items → AreFeaturesOf collection xs → All (λ x. IsOfKind (get_or items place d).kind (value_at place x)) xs
alike_at collection xs items place d e h listed = all_of_kind collection xs place (property_of (get_or items place d)) listed (named_at (schema_of collection) items place d e h)

drop_here : (ps : List Named) (i : ℕ) (p : Named) → slice_get ps i ≡ Some p → drop i ps ≡ p ∷ drop (suc i) ps
drop_here [] i p e = cc
drop_here (q ∷ ps) zero p e = let h : q ≡ p = cc in rw h refl
drop_here (q ∷ ps) (suc i) p e = drop_here ps i p e

index_taken : (ps : List Named) (xs : List Item) (place : ℕ) (p : Named) (found all : List Index) → slice_get ps place ≡ Some p → found ++ indexes_from place (drop place ps) xs ≡ all → (found ++ index_of p.1 place xs ∷ []) ++ indexes_from (place + 1) (drop (place + 1) ps) xs ≡ all
index_taken ps xs place p found all e i =
    let h : indexes_from place (drop place ps) xs ≡ index_of p.1 place xs ∷ indexes_from (place + 1) (drop (place + 1) ps) xs = rw (drop_here ps place p e, add-one) refl in
    append_assoc found (index_of p.1 place xs ∷ []) (indexes_from (place + 1) (drop (place + 1) ps) xs) ∙ ap (λ ys. found ++ ys) (sym h) ∙ i

pub index_more : (ps : List Named) (xs : List Item) (items : List Property) (place : ℕ) (d : Property) (found all : List Index) → map property_of items ≡ ps → place < length items → found ++ indexes_from place (drop place ps) xs ≡ all → (found ++ index_of (get_or items place d).kind place xs ∷ []) ++ indexes_from (place + 1) (drop (place + 1) ps) xs ≡ all
index_more ps xs items place d found all e h i = index_taken ps xs place (property_of (get_or items place d)) found all (named_at ps items place d e h) i

-- ---- the index at a place

index_from_at : (ps : List Named) (xs : List Item) (a k : ℕ) (p : Named) → slice_get ps k ≡ Some p → get_or (indexes_from a ps xs) k Unindexed ≡ index_of p.1 (a + k) xs
index_from_at [] xs a k p e = cc
index_from_at (q ∷ ps) xs a zero p e = let h : q ≡ p = cc in let n : a + 0 ≡ a = omega arith in rw (h, n) refl
index_from_at (q ∷ ps) xs a (suc k) p e = let n : a + suc k ≡ (a + 1) + k = omega arith in rw n (index_from_at ps xs (a + 1) k p e)

pub index_is : (ps : List Named) (xs : List Item) (place : ℕ) (p : Named) → slice_get ps place ≡ Some p → get_or (indexes_from 0 ps xs) place Unindexed ≡ index_of p.1 place xs
index_is ps xs place p e = let n : 0 + place ≡ place = omega arith in rw n at (index_from_at ps xs 0 place p e)
