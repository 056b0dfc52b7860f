-- The versions of each class are counted by the features of the collections.
use denote.Param.Members.{Called, Mut}
use Rattle.std.proofs.Common.{◌≡◌, ◌∙◌, ◌+◌, ◌<◌, ℕ, zero, suc, List, [], ◌∷◌, length, get_or, map, filter, refl, sym, ap, subst, arith}
use Rattle.std.proofs.lemmas.List.{get_or-map, length-map, same_lists}
use Rattle.std.specs.Array.{IsMapOf, MapsFrom}
use Rattle.cad_versions.specs.declared.body.Class.{Class}
use Rattle.cad_versions.specs.VersionedObject.{VersionedObject}
use Rattle.cad_feature.specs.Flatten.{class_for, feature_in, features_in, is_in}
use Rattle.cad_schema.specs.declared.collection.Collection.{Collection}
use Rattle.cad_schema.specs.Collections.{collections}
use Rattle.cad_stream.specs.declared.summary.VersionCounts.{VersionCounts}
use Rattle.cad_stream.specs.Summaries.{AreSoMany, count_of}
use Rattle.cad_server.specs.inner.Counts.{AreCountsOf}

all_features : (versions : List VersionedObject) (c : Collection) → length (features_in versions c) ≡ count_of (class_for c) versions
all_features versions c = length-map (filter (is_in c) versions) (feature_in versions c)

-- a table over collections is one over their classes
by_class : {X : Type 0} (f : Collection → X) (g : Class → X) → ((c : Collection) → f c ≡ g (class_for c)) → (cs : List Collection) → map f cs ≡ map g (map class_for cs)
by_class f g same [] = refl
by_class f g same (c ∷ cs) = rw (same c, by_class f g same cs) refl

pub are_so_many : (versions : List VersionedObject) (counts : VersionCounts) → AreCountsOf versions counts → AreSoMany versions counts
are_so_many versions counts are = are ∙ by_class _ (λ class. count_of class versions) (all_features versions) collections

module _ {F A B : Type 0} (g : Mut F (A × Unit {0}) B) (f : F) (h : A → B) (each : (x : A) (y : B) (q : F) → Called g f (x, tt) y q → (q ≡ f) × (y ≡ h x)) where
  mapped_at : (xs : List A) (ys : List B) (i n : ℕ) → MapsFrom g f xs ys i n → (k j : ℕ) → i + k ≡ j → k < n → (e : B) → (x : A) × (get_or xs j x ≡ x) × (get_or ys j e ≡ h x)
  mapped_at xs ys i zero made k j at low e = absurd (omega arith)
  mapped_at xs ys i (suc n) made zero j at low e =
      let same : i ≡ j = omega arith in
      subst (λ m. (x : A) × (get_or xs m x ≡ x) × (get_or ys m e ≡ h x)) same (made.1, made.3.0, made.4.1 e ∙ (each made.1 made.2 made.0 made.5).1)
  mapped_at xs ys i (suc n) made (suc k) j at low e =
      mapped_at xs ys (i + 1) n (subst (λ p. MapsFrom g p xs ys (i + 1) n) (each made.1 made.2 made.0 made.5).0 made.6) k j (omega arith) (omega arith) e

  -- a table of what a function gives of each element, where each call gives what h says and changes nothing
  pub mapped : (xs : List A) (ys : List B) → IsMapOf g f xs ys (length xs) → ys ≡ map h xs
  mapped xs ys all = same_lists ys (map h xs) (all.long ∙ sym (length-map xs h)) (λ k e low.
      let at = mapped_at xs ys 0 (length xs) all.each k k (omega arith) (omega (arith, all.long)) e in
      at.2 ∙ (ap h (sym at.1) ∙ sym (get_or-map h xs k at.0 e (omega (arith, all.long)))))
