-- One version more of a listing.
use Rattle.std.proofs.Common.{◌≡◌, ℕ, ◌+◌, ◌<◌, ℤ, ◌≤ℤ◌, pos, Bool, true, false, cond, List, [], ◌∷◌, ◌++◌, map, Option, Some, None, Less, inl, inr, refl, arith}
use Rattle.std.specs.List.{All, AllByRecursion}
use Rattle.std.specs.List.Sorted.{IsStrictlySortedBy}
use Rattle.std.specs.Option.{ForSome}
use Rattle.std.specs.Ordering.{is_lt}
use Rattle.std.proofs.lemmas.Int.{ints}
use Rattle.std.proofs.lemmas.List.{length-map}
use Rattle.std.proofs.lemmas.List.Elements.{All-push, All-from_recursion, recursion_from_All}
use Rattle.sqlite_keyed.proofs.ListLemmas.{all-append}
use Rattle.cad_day.specs.Days.{number_of}
use Rattle.cad_versions.specs.Objects.{object_number}
use Rattle.cad_versions.specs.VersionedObject.{VersionedObject, IsVersion}
use Rattle.cad_versions.specs.Identifiers.{identifier_of, identifier_cmp, by_identifier}
use Rattle.cad_versions.specs.Entries.{Entry, version_in, seen_at, is_closed_by}
use Rattle.cad_versions.specs.Listing.{IsListing}
use Rattle.cad_register.specs.declared.place.Place.{Place}
use Rattle.cad_register.specs.Damage.{place_of, Follows}
use Rattle.cad_versions.specs.lemmas.ListLemmas.{sorted_push}

-- ---- identifiers

abbrev comes_before : ℤ × ℤ → ℤ × ℤ → Bool
comes_before a b = is_lt (identifier_cmp a b)

-- the identifier of the version in this place
abbrev identifier_at : Place → ℤ × ℤ
identifier_at place = (pos place.object, pos place.number)

abbrev comes_after : Option Place → ℤ × ℤ → Bool
comes_after None id = true
comes_after (Some before) id = comes_before (identifier_at before) id

less : (u v : VersionedObject) → comes_before (identifier_of u) (identifier_of v) ≡ true → by_identifier u v ≡ Less
less u v h = grind (arith, ints)

before_all : (a b c : ℤ × ℤ) → comes_before a b ≡ true → comes_before b c ≡ true → comes_before a c ≡ true
before_all a b c p q = grind (arith, ints)

after_all : (before : Option Place) (b c : ℤ × ℤ) → comes_after before b ≡ true → comes_before b c ≡ true → comes_after before c ≡ true
after_all None b c p q = refl
after_all (Some a) b c p q = before_all (identifier_at a) b c p q

next_after : (o m p n : ℕ) → p ≡ o → n ≡ m + 1 → comes_before (pos o, pos m) (pos p, pos n) ≡ true
next_after o m p n e f = grind (arith, ints)

first_after : (o m p n : ℕ) → o < p → comes_before (pos o, pos m) (pos p, pos n) ≡ true
first_after o m p n h = grind (arith, ints)

follows_after : (before : Option Place) (v : VersionedObject) → Follows before v → comes_after before (identifier_of v) ≡ true
follows_after None v h = refl
follows_after (Some before) v (inl next) = next_after before.object before.number (object_number v.object) v.number next.object next.number
follows_after (Some before) v (inr later) = first_after before.object before.number (object_number v.object) v.number later.object

-- ---- lists

-- ---- a listing

version_seen : (revision : ℕ) (e : Entry) → IsVersion e.version → IsVersion (seen_at revision e)
version_seen revision e is = record {
  positive = is.positive;
  small = is.small;
  forward = elim (is_closed_by revision e.closed) as (λ b. ForSome (cond b e.version.last None) (λ last. number_of e.version.first ≤ℤ number_of last)) [ true ↦ is.forward | false ↦ λ last none. absurd cc ];
}

-- what is listed so far, where the last version has this place
pub record AreListed (before : Option Place) (vs : List VersionedObject) : Type 0 where
  pub ascending : IsStrictlySortedBy by_identifier vs
  pub behind : (v : VersionedObject) → comes_after before (identifier_of v) ≡ true → AllByRecursion (λ u. by_identifier u v ≡ Less) vs
  pub each : All IsVersion vs

pub none_listed : AreListed None []
unfolding IsStrictlySortedBy
none_listed = record { ascending = tt; behind = λ v h. tt; each = λ k d h. absurd (omega arith) }

pub one_listed : (before : Option Place) (e : Entry) (vs : List VersionedObject) → IsVersion e.version → Follows before e.version → AreListed before vs → AreListed (Some (place_of e.version)) (vs ++ version_in e ∷ [])
one_listed before e vs is follows so_far =
    let new = version_in e in
    let after = follows_after before e.version follows in
    record {
      ascending = sorted_push by_identifier vs new so_far.ascending (so_far.behind new after);
      behind = λ v h. all-append (λ u. by_identifier u v ≡ Less) vs (new ∷ []) (so_far.behind v (after_all before (identifier_of e.version) (identifier_of v) after h)) (less new v h, tt);
      each = All-push IsVersion vs new so_far.each is;
    }

-- ---- as they were at a revision

module _ (revision : ℕ) where
  behind_seen : (e : Entry) (es : List Entry) → AllByRecursion (λ v. by_identifier (version_in e) v ≡ Less) (map version_in es) → AllByRecursion (λ v. by_identifier (seen_at revision e) v ≡ Less) (map (seen_at revision) es)
  behind_seen e [] all = tt
  behind_seen e (d ∷ es) all = (all.0, behind_seen e es all.1)

  seen_rise : (es : List Entry) → IsStrictlySortedBy by_identifier (map version_in es) → IsStrictlySortedBy by_identifier (map (seen_at revision) es)
  unfolding IsStrictlySortedBy
  seen_rise [] up = tt
  seen_rise (e ∷ es) up = (behind_seen e es up.0, seen_rise es up.1)

  each_seen : (es : List Entry) → AllByRecursion IsVersion (map version_in es) → AllByRecursion IsVersion (map (seen_at revision) es)
  each_seen [] all = tt
  each_seen (e ∷ es) all = (version_seen revision e all.0, each_seen es all.1)

  pub seen_listing : (es : List Entry) → IsListing (map version_in es) → IsListing (map (seen_at revision) es)
  seen_listing es listing = record {
    ascending = seen_rise es listing.ascending;
    few = omega (arith, listing.few, length-map es version_in, length-map es (seen_at revision));
    each = All-from_recursion IsVersion (map (seen_at revision) es) (each_seen es (recursion_from_All IsVersion (map version_in es) listing.each));
  }
