-- The order of identifiers; no two versions of a register have one identifier.
use Rattle.std.proofs.Common.{◌≡◌, ℕ, ◌+◌, ◌≤◌, ◌<◌, ℤ, pos, Bool, true, false, cond, List, [], ◌∷◌, refl, arith, true≢false, is_eq, Ordering, Less, Equal, Greater, int_cmp, int_eq}
use Rattle.std.specs.List.{AllByRecursion, IsDistinct}
use Rattle.std.specs.Cmp.{IsTotalOrder}
use Rattle.std.specs.Ordering.{eq_by_cmp, ordering_then}
use Rattle.std.proofs.lemmas.Cmp.{int_cmp_total, on_total, then_total}
use Rattle.std.proofs.lemmas.Int.{ints}
use Rattle.cad_versions.specs.declared.object_id.ObjectId.{ObjectId}
use Rattle.cad_versions.specs.Objects.{object_number}
use Rattle.cad_versions.specs.VersionedObject.{VersionedObject}
use Rattle.cad_versions.specs.Versions.{is_of, history}
use Rattle.cad_versions.specs.Histories.{IsHistory}
use Rattle.cad_versions.specs.Identifiers.{identifier_of, identifier_cmp, by_identifier}
use Rattle.cad_versions.specs.lemmas.ListLemmas.{all_weaker, all_kept}
use Rattle.cad_versions.specs.lemmas.HistoryLemmas.{HasHistories}

-- ---- numbers

-- each is numbered below every later one
abbrev pub NumbersRise : List VersionedObject → Type 0
NumbersRise [] = Unit {0}
NumbersRise (v ∷ vs) = AllByRecursion (λ (w : VersionedObject). v.number < w.number) vs × NumbersRise vs

all_above : (n : ℕ) (xs : List VersionedObject) → IsHistory n xs → AllByRecursion (λ (v : VersionedObject). n ≤ v.number) xs
all_above n [] h = tt
all_above n (v ∷ []) h = let e : v.number ≡ n = h.0 in (omega arith, tt)
all_above n (v ∷ (w ∷ xs)) h =
    let e : v.number ≡ n = h.0 in
    (omega arith, all_weaker (λ (u : VersionedObject). n + 1 ≤ u.number) (λ (u : VersionedObject). n ≤ u.number) (λ u k. omega arith) (w ∷ xs) (all_above (n + 1) (w ∷ xs) h.3))

pub numbers_rise : (n : ℕ) (xs : List VersionedObject) → IsHistory n xs → NumbersRise xs
numbers_rise n [] h = tt
numbers_rise n (v ∷ []) h = (tt, tt)
numbers_rise n (v ∷ (w ∷ xs)) h =
    let e : v.number ≡ n = h.0 in
    (all_weaker (λ (u : VersionedObject). n + 1 ≤ u.number) (λ (u : VersionedObject). v.number < u.number) (λ u k. omega arith) (w ∷ xs) (all_above (n + 1) (w ∷ xs) h.3), numbers_rise (n + 1) (w ∷ xs) h.3)

-- of each object the numbers rise
abbrev pub Rise : List VersionedObject → Type 0
Rise vs = (object : ObjectId) → NumbersRise (history object vs)

rises_later : (v : VersionedObject) (vs : List VersionedObject) → Rise (v ∷ vs) → Rise vs
rises_later v vs up object = go (is_of object v) (up object)
  where
    go : (b : Bool) → NumbersRise (cond b (v ∷ history object vs) (history object vs)) → NumbersRise (history object vs)
    go true h = h.1
    go false h = h

-- ---- identifiers

pub identifiers_total : IsTotalOrder identifier_cmp
identifiers_total = then_total (on_total (λ (i : ℤ × ℤ). i.0) int_cmp_total) (on_total (λ (i : ℤ × ℤ). i.1) int_cmp_total)

pub versions_total : IsTotalOrder by_identifier
versions_total = on_total identifier_of identifiers_total

unequal : (o p : Ordering) → is_eq o ≡ false → is_eq (ordering_then o p) ≡ false
unequal Less p h = refl
unequal Equal p h = absurd (true≢false h)
unequal Greater p h = refl

less_then : (o : Ordering) → is_eq (ordering_then o Less) ≡ false
less_then Less = refl
less_then Equal = refl
less_then Greater = refl

pub cmp_less : (m n : ℕ) → m < n → int_cmp (pos m) (pos n) ≡ Less
cmp_less m n h = grind (arith, ints)

cmp_unequal : (m n : ℕ) → int_eq (pos n) (pos m) ≡ false → is_eq (int_cmp (pos m) (pos n)) ≡ false
cmp_unequal m n h = grind (arith, ints)

apart : (a b : VersionedObject) → (is_of a.object b ≡ true → a.number < b.number) → is_eq (by_identifier a b) ≡ false
apart a b h = go (is_of a.object b) refl
  where
    go : (t : Bool) → is_of a.object b ≡ t → is_eq (by_identifier a b) ≡ false
    go true e = rw (cmp_less a.number b.number (h e)) (less_then (int_cmp (pos (object_number a.object)) (pos (object_number b.object))))
    go false e = unequal (int_cmp (pos (object_number a.object)) (pos (object_number b.object))) _ (cmp_unequal (object_number a.object) (object_number b.object) e)

own_object : (v : VersionedObject) → is_of v.object v ≡ true
own_object v = grind (arith, ints)

risen_apart : (vs : List VersionedObject) → Rise vs → IsDistinct (eq_by_cmp by_identifier) vs
unfolding IsDistinct
risen_apart [] up = tt
risen_apart (v ∷ vs) up =
    let here = (rw (own_object v) at (up v.object)).0 in
    (all_weaker (λ (b : VersionedObject). is_of v.object b ≡ true → v.number < b.number) (λ b. is_eq (by_identifier v b) ≡ false) (λ b k. apart v b k) vs (all_kept (λ (b : VersionedObject). v.number < b.number) (is_of v.object) vs here), risen_apart vs (rises_later v vs up))

-- no two versions have one identifier
pub identifiers_apart : (vs : List VersionedObject) → HasHistories vs → IsDistinct (eq_by_cmp by_identifier) vs
identifiers_apart vs all = risen_apart vs (λ object. numbers_rise 1 (history object vs) (all object))
