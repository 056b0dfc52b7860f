-- Rows in the order of their identifiers, and what was read of them in theirs.
use Rattle.std.proofs.Common.{◌≡◌, ℕ, zero, suc, ◌+◌, ◌<◌, List, [], ◌∷◌, length, map, get_or, set, refl, ap₂, ◌∙◌, arith, is_lt, is_eq, false, IsPermutation, IsSorted, swap}
use Rattle.std.specs.List.{AllZip}
use Rattle.std.specs.Cmp.{IsTotalOrder, on_total}
use Rattle.std.proofs.lemmas.List.Sorted.{IsPermutation-keeps, IsPermutation-refl, IsPermutation-trans, IsPermutation-swap}
use Rattle.std.proofs.lemmas.Slice.Zip.{AllZip-long}
use Rattle.sqlite_keyed.proofs.ListLemmas.{ascending-map}
use Rattle.sqlite_keyed.proofs.SortLemmas.{sorted_is-sort_by, sort_by-map}
use Rattle.sqlite_value.specs.Order.{Row, column}
use Rattle.cad_tables.specs.VersionRow.{VersionRow, cells_of}
use Rattle.cad_tables.specs.Listing.{HaveNoTies, identifier_order, lines_at, listing}
use Rattle.cad_versions.specs.Identifiers.{identifier_cmp}
use Rattle.cad_versions.specs.lemmas.OrderLemmas.{identifiers_total}
use Rattle.cad_register.specs.declared.found.FoundRow.{FoundRow}
use Rattle.cad_register.specs.declared.found.FoundRow.TheVariants.{Version, Damaged}
use Rattle.cad_register.specs.Damage.{identifier_in, number_in, by_stored_identifier, AreInOrder}
use Rattle.cad_register.specs.inner.Found.{IsReadOf, AreReadOf, identifier_of, by_identifier}

-- ---- what is related place by place, one of the lists in another order

module _ {A B : Type 0} (R : A → B → Type 0) where
  zip_at : (xs : List A) (ys : List B) (i : ℕ) (d : A) (e : B) → AllZip R xs ys → i < length ys → R (get_or xs i d) (get_or ys i e)
  zip_at [] [] i d e h low = absurd (omega (arith, low))
  zip_at [] (y ∷ ys) i d e h low = absurd h
  zip_at (x ∷ xs) [] i d e h low = absurd h
  zip_at (x ∷ xs) (y ∷ ys) zero d e h low = h.0
  zip_at (x ∷ xs) (y ∷ ys) (suc i) d e h low = zip_at xs ys i d e h.1 (omega (arith, low))

  zip_set : (xs : List A) (ys : List B) (i : ℕ) (x : A) (y : B) → AllZip R xs ys → R x y → AllZip R (set xs i x) (set ys i y)
  zip_set [] [] i x y h here = tt
  zip_set [] (w ∷ ys) i x y h here = absurd h
  zip_set (z ∷ xs) [] i x y h here = absurd h
  zip_set (z ∷ xs) (w ∷ ys) zero x y h here = (here, h.1)
  zip_set (z ∷ xs) (w ∷ ys) (suc i) x y h here = (h.0, zip_set xs ys i x y h.1 here)

  zip_swap : (xs : List A) (ys : List B) (i j : ℕ) → AllZip R xs ys → i < length ys → j < length ys → AllZip R (swap xs i j) (swap ys i j)
  zip_swap [] [] i j h p q = tt
  zip_swap [] (y ∷ ys) i j h p q = absurd h
  zip_swap (x ∷ xs) [] i j h p q = absurd h
  zip_swap (x ∷ xs) (y ∷ ys) i j h p q =
      zip_set (set (x ∷ xs) i (get_or (x ∷ xs) j x)) (set (y ∷ ys) i (get_or (y ∷ ys) j y)) j (get_or (x ∷ xs) i x) (get_or (y ∷ ys) i y)
      (zip_set (x ∷ xs) (y ∷ ys) i (get_or (x ∷ xs) j x) (get_or (y ∷ ys) j y) h (zip_at (x ∷ xs) (y ∷ ys) j x y h q)) (zip_at (x ∷ xs) (y ∷ ys) i x y h p)

  -- in that order, what they are related to
  abbrev Follows : List A → List B → Type 0
  Follows xs ys = (zs : List A) × IsPermutation xs zs × AllZip R zs ys

  zip_permuted : (xs : List A) (ys zs : List B) → AllZip R xs ys → IsPermutation ys zs → Follows xs zs
  zip_permuted xs ys zs h = IsPermutation-keeps ys (Follows xs) (xs, IsPermutation-refl xs, h)
      (λ l i j p q so_far.
      let long : length l ≡ length so_far.0 = AllZip-long R so_far.0 l so_far.2 in (
        swap so_far.0 i j,
        IsPermutation-trans xs so_far.0 (swap so_far.0 i j) so_far.1 (IsPermutation-swap so_far.0 (swap so_far.0 i j) i j (omega (arith, p, long)) (omega (arith, q, long)) refl),
        zip_swap so_far.0 l i j so_far.2 p q,
      )) zs

-- ---- rows

identifier_read : (row : Row) (x : FoundRow) → IsReadOf row x → identifier_in row ≡ identifier_of x
identifier_read row (Version kept) h = ap₂ (λ a b. (number_in a, number_in b)) h.object h.number
identifier_read row (Damaged object number) h = h.0

sorted_read : (rows : List Row) (found : List FoundRow) → AreReadOf rows found → IsSorted by_identifier found → IsSorted by_stored_identifier rows
sorted_read rows found read sorted k d low high =
    let long : length found ≡ length rows = AllZip-long IsReadOf rows found read in
    let here = λ (i : ℕ) (p : i < length found). identifier_read (get_or rows i d) (get_or found i (Damaged (number_in (column d 0)) (number_in (column d 1)))) (zip_at IsReadOf rows found i d (Damaged (number_in (column d 0)) (number_in (column d 1))) read p) in
    ap₂ (λ a b. is_lt (identifier_cmp a b)) (here (k + 1) (omega (arith, high, long))) (here k (omega (arith, high, long))) ∙ sorted k (Damaged (number_in (column d 0)) (number_in (column d 1))) low (omega (arith, high, long))

-- what was read of rows and put in order is what was read of these rows in order
pub put_in_order : (shown : List Row) (found ordered : List FoundRow) → AreReadOf shown found → IsPermutation found ordered → IsSorted by_identifier ordered → (rows : List Row) × AreInOrder shown rows × AreReadOf rows ordered
put_in_order shown found ordered read same sorted =
    let moved = zip_permuted IsReadOf shown found ordered read same in
    (moved.0, record { same = moved.1; sorted = sorted_read moved.0 ordered moved.2 sorted }, moved.2)

-- ---- the lines of a register

stored_total : IsTotalOrder by_stored_identifier
stored_total = on_total identifier_in identifiers_total

-- in the order of their identifiers, of which no two are alike, the lines of a revision are its listing
pub lines_in_order : (revision : ℕ) (lines : List VersionRow) (shown rows : List Row) → HaveNoTies identifier_order (lines_at revision lines) → IsPermutation (map cells_of (lines_at revision lines)) shown → AreInOrder shown rows
    → rows ≡ map cells_of (listing revision lines)
lines_in_order revision lines shown rows apart same order =
    sorted_is-sort_by by_stored_identifier stored_total (map cells_of (lines_at revision lines)) rows
    (ascending-map (λ a b. is_eq (by_stored_identifier a b) ≡ false) cells_of (lines_at revision lines) apart)
    (IsPermutation-trans (map cells_of (lines_at revision lines)) shown rows same order.same) order.sorted
    ∙ sort_by-map by_stored_identifier cells_of (lines_at revision lines)
