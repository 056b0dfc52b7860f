-- Versions that are listed one after the other, with rising numbers of objects.
use Rattle.std.proofs.Common.{◌≡◌, ℕ, ◌+◌, ◌≤◌, ◌<◌, List, [], ◌∷◌, ◌++◌, length, refl, arith, Less, length-append}
use Rattle.std.specs.List.{All}
use Rattle.std.specs.List.Sorted.{IsStrictlySortedBy}
use Rattle.std.proofs.lemmas.List.Elements.{All-push, All-weaker, recursion_from_All}
use Rattle.cad_versions.specs.Identifiers.{by_identifier}
use Rattle.cad_versions.specs.Listing.{IsListing}
use Rattle.cad_versions.specs.Objects.{object_number}
use Rattle.cad_versions.specs.VersionedObject.{VersionedObject, IsVersion}
use Rattle.cad_versions.specs.lemmas.ListLemmas.{sorted_push}
use Rattle.cad_versions.specs.lemmas.OrderLemmas.{cmp_less}

comes_before : (n : ℕ) (v x : VersionedObject) → object_number v.object ≡ n + 1 → object_number x.object ≤ n → by_identifier x v ≡ Less
comes_before n v x e h = rw (cmp_less (object_number x.object) (object_number v.object) (omega arith)) refl

abbrev pub Below : ℕ → List VersionedObject → Type 0
Below n vs = All (λ (v : VersionedObject). object_number v.object ≤ n) vs

pub below_more : (n : ℕ) (vs : List VersionedObject) (v : VersionedObject) → Below n vs → object_number v.object ≡ n + 1 → Below (n + 1) (vs ++ v ∷ [])
below_more n vs v below e =
    All-push (λ (w : VersionedObject). object_number w.object ≤ n + 1) vs v
    (All-weaker (λ (w : VersionedObject). object_number w.object ≤ n) (λ (w : VersionedObject). object_number w.object ≤ n + 1) (λ w h. omega arith) vs below) (omega arith)

pub listed_more : (n : ℕ) (vs : List VersionedObject) (v : VersionedObject) → IsListing vs → Below n vs → object_number v.object ≡ n + 1 → IsVersion v → length vs ≡ n → n < 2147483647 → IsListing (vs ++ v ∷ [])
listed_more n vs v listed below e good many few = record {
  ascending = sorted_push by_identifier vs v listed.ascending (recursion_from_All (λ w. by_identifier w v ≡ Less) vs (All-weaker (λ (w : VersionedObject). object_number w.object ≤ n) (λ w. by_identifier w v ≡ Less) (λ w h. comes_before n v w e h) vs below));
  few = rw length-append (omega arith);
  each = All-push IsVersion vs v listed.each good;
}

pub nothing_listed : (vs : List VersionedObject) → vs ≡ [] → IsListing vs
unfolding IsStrictlySortedBy
nothing_listed vs e = rw e (record { ascending = tt; few = omega arith; each = λ k d h. absurd (omega (arith, h)) })

pub nothing_below : (vs : List VersionedObject) → vs ≡ [] → Below 0 vs
nothing_below vs e = rw e (λ k d h. absurd (omega (arith, h)))
