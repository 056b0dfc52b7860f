-- What a revision lists is a listing.
use Rattle.std.proofs.Common.{◌≡◌, ℕ, suc, ◌+◌, ◌<◌, pos, true, false, cond, List, [], ◌∷◌, ◌++◌, length, map, refl, sym, ap, ◌∙◌, subst, arith, get_or, drop, append_assoc, Ordering, int_cmp, int_le, nat_cmp, IsPermutation, IsSorted}
use Rattle.std.specs.List.{All}
use Rattle.std.specs.List.Sorted.{IsSortedByKey}
use Rattle.std.specs.Ordering.{ordering_then, eq_by_cmp}
use Rattle.std.proofs.lemmas.Int.{ints}
use Rattle.std.proofs.Math.Seq.{drop-cons}
use Rattle.std.proofs.lemmas.List.{length-map}
use Rattle.std.proofs.lemmas.List.Elements.{All-push}
use Rattle.cad_versions.specs.lemmas.ListLemmas.{filter_fewer, sort_by-map}
use Rattle.cad_versions.specs.Objects.{object_number}
use Rattle.cad_versions.specs.VersionedObject.{VersionedObject, IsVersion}
use Rattle.cad_versions.specs.AsOf.{entry_order}
use Rattle.cad_versions.specs.Entries.{Entry, version_in, entries_at, seen_at}
use Rattle.cad_versions.specs.Sorting.{sort_by}
use Rattle.cad_versions.specs.Identifiers.{by_identifier}
use Rattle.cad_versions.specs.Listing.{IsListing}
use Rattle.cad_versions.specs.lemmas.OrderLemmas.{versions_total, identifiers_apart}
use Rattle.cad_versions.specs.lemmas.SeenLemmas.{entries_total}
use Rattle.cad_versions.specs.lemmas.SortLemmas.{sorted_is, sort_rises, length-sort_by}
use Rattle.cad_memory_ledger.specs.inner.Plain.{AreHistories, AreApart}
use Rattle.cad_memory_ledger.proofs.PlainLemmas.{seen_apart, distinct_by}

-- ---- the order of identifiers

cmp_same : (m n : ℕ) → nat_cmp m n ≡ int_cmp (pos m) (pos n)
cmp_same m n = grind (arith, ints)

abbrev pub key_of : VersionedObject → ℕ × ℕ
key_of v = (object_number v.object, v.number)

abbrev pub key_cmp : ℕ × ℕ → ℕ × ℕ → Ordering
key_cmp a b = ordering_then (nat_cmp a.0 b.0) (nat_cmp a.1 b.1)

keys_same : (u v : VersionedObject) → key_cmp (key_of u) (key_of v) ≡ by_identifier u v
keys_same u v = rw (cmp_same (object_number u.object) (object_number v.object), cmp_same u.number v.number) refl

sorted_by_key : (vs : List VersionedObject) → IsSortedByKey key_of key_cmp vs → IsSorted by_identifier vs
sorted_by_key vs sorted k d p q = rw (← keys_same _ _) (sorted k d p q)

pub in_order_is : (xs ys : List VersionedObject) → AreApart xs → IsPermutation xs ys → IsSortedByKey key_of key_cmp ys → ys ≡ sort_by by_identifier xs
in_order_is xs ys apart same sorted = sorted_is by_identifier versions_total xs ys apart same (sorted_by_key ys sorted)

-- ---- a listing

pub listing : (r : ℕ) (ls : List Entry) (found : List VersionedObject) → AreHistories ls → found ≡ sort_by by_identifier (map (seen_at r) (entries_at r ls)) → All IsVersion found → IsListing found
listing r ls found all e each =
    let seen = map (seen_at r) (entries_at r ls) in
    record {
      ascending = rw e (sort_rises by_identifier versions_total seen (seen_apart r ls all));
      few = rw e (omega (arith, all.few, length-sort_by by_identifier seen, length-map (entries_at r ls) (seen_at r), filter_fewer (λ (entry : Entry). int_le (pos entry.entered) (pos r)) ls));
      each = each;
    }

pub all_pushed : (vs : List VersionedObject) (v : VersionedObject) → All IsVersion vs → IsVersion v → All IsVersion (vs ++ v ∷ [])
all_pushed vs v all is = All-push IsVersion vs v all is

abbrev shown : ℕ → List Entry → List VersionedObject
shown r ls = map (seen_at r) (entries_at r ls)

shown_first : (r : ℕ) (l : Entry) (ls : List Entry) → shown r (l ∷ ls) ≡ shown r (l ∷ []) ++ shown r ls
shown_first r l ls =
    elim (int_le (pos l.entered) (pos r)) as (λ b. map (seen_at r) (cond b (l ∷ entries_at r ls) (entries_at r ls)) ≡ map (seen_at r) (cond b (l ∷ []) []) ++ map (seen_at r) (entries_at r ls)) [ true ↦ refl | false ↦ refl ]

-- one entry more of those that are gone through
pub shown_more : (r : ℕ) (ls : List Entry) (i : ℕ) (l : Entry) (whole found more : List VersionedObject) → i < length ls → l ≡ get_or ls i l → whole ≡ found ++ shown r (drop i ls) → more ≡ found ++ shown r (l ∷ []) → whole ≡ more ++ shown r (drop (i + 1) ls)
shown_more r ls i l whole found more within is so_far added =
    let count : suc i ≡ i + 1 = omega arith in
    let next : drop i ls ≡ l ∷ drop (i + 1) ls = subst (λ n. drop i ls ≡ l ∷ drop n ls) count (drop-cons ls i l within ∙ ap (λ x. x ∷ drop (suc i) ls) (sym is)) in
    so_far ∙ ap (λ xs. found ++ shown r xs) next ∙ ap (λ xs. found ++ xs) (shown_first r l (drop (i + 1) ls)) ∙ sym (append_assoc found (shown r (l ∷ [])) (shown r (drop (i + 1) ls))) ∙ ap (λ xs. xs ++ shown r (drop (i + 1) ls)) (sym added)

-- ---- all entries

abbrev pub key_of_entry : Entry → ℕ × ℕ
key_of_entry e = key_of (version_in e)

sorted_by_entry_key : (es : List Entry) → IsSortedByKey key_of_entry key_cmp es → IsSorted entry_order es
sorted_by_entry_key es sorted k d p q = rw (← keys_same _ _) (sorted k d p q)

pub entries_in_order_are : (xs ys : List Entry) → AreApart (map version_in xs) → IsPermutation xs ys → IsSortedByKey key_of_entry key_cmp ys → ys ≡ sort_by entry_order xs
entries_in_order_are xs ys apart same sorted = sorted_is entry_order entries_total xs ys (distinct_by (eq_by_cmp by_identifier) version_in xs apart) same (sorted_by_entry_key ys sorted)

pub all_listed : (ls found : List Entry) → AreHistories ls → found ≡ sort_by entry_order ls → All IsVersion (map version_in found) → IsListing (map version_in found)
all_listed ls found all e each = record {
  ascending = rw (e, ← sort_by-map by_identifier version_in ls) (sort_rises by_identifier versions_total (map version_in ls) (identifiers_apart (map version_in ls) all.histories));
  few = rw e (omega (arith, all.few, length-map (sort_by entry_order ls) version_in, length-sort_by entry_order ls));
  each = each;
}
