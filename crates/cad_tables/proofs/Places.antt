-- Rows with their places.
use Rattle.std.proofs.Common.{◌≡◌, ℕ, zero, ℤ, pos, ◌+◌, ◌-◌, ◌+ℤ◌, ◌<◌, ◌<ℤ◌, List, [], ◌∷◌, ◌++◌, length, map, fold, take, drop, refl, sym, ap, ap₂, ◌∙◌, subst, arith, Less, Greater, int_cmp, suc, Bool, true, false, cond, ◌&&◌, filter, add-zero, int_eq, int_le, int_lt, nat_lt}
use Rattle.std.specs.List.{AllByRecursion, enumerate_from}
use Rattle.std.proofs.lemmas.Bool.Decides.{nat_tests}
use Rattle.std.proofs.lemmas.Int.{ints}
use Rattle.sqlite_trees.specs.Tree.{put_row, rowid}
use Rattle.sqlite_rules.specs.Edit.{id_in}
use Rattle.sqlite_keyed.specs.Keyed.{IsKeyedBy, insert_by}
use Rattle.sqlite_keyed.specs.Lists.{without_key}
use Rattle.sqlite_typed.proofs.RowLemmas.{puts-map}
use Rattle.cad_tables.specs.Holding.{row_of, rows_of}
use Rattle.cad_tables.specs.VersionRow.{VersionRow}

abbrev pub place : {A : Type 0} → ℕ × A → ℤ
place line = pos line.0

module _ {A : Type 0} where
  above : (k n : ℕ) (xs : List A) → k < n → AllByRecursion (λ (b : ℕ × A). pos k <ℤ pos b.0) (enumerate_from n xs)
  above k n [] h = tt
  above k n (x ∷ xs) h = (omega (arith, ints), above k (n + 1) xs (omega arith))

  pub lines_keyed : (n : ℕ) (xs : List A) → IsKeyedBy place (enumerate_from n xs)
  lines_keyed n [] = tt
  lines_keyed n (x ∷ xs) = (above n (n + 1) xs (omega arith), lines_keyed (n + 1) xs)

  pub lines_append : (n : ℕ) (xs ys : List A) → enumerate_from n (xs ++ ys) ≡ enumerate_from n xs ++ enumerate_from (n + length xs) ys
  lines_append n [] ys = rw add-zero
  lines_append n (x ∷ xs) ys = ap (λ l. (n, x) ∷ l) (lines_append (n + 1) xs ys ∙ ap (λ m. enumerate_from (n + 1) xs ++ enumerate_from m ys) (omega arith))

  insert_last : (n : ℕ) (xs : List A) (x : A) → insert_by place (enumerate_from n xs) (n + length xs, x) ≡ enumerate_from n (xs ++ x ∷ [])
  insert_last n [] x = ap (λ m. (m, x) ∷ []) (omega arith)
  insert_last n (y ∷ xs) x =
      let low : int_cmp (pos n) (pos (n + suc (length xs))) ≡ Less = grind (arith, ints) in
      rw low (ap (λ l. (n, y) ∷ l) (ap (λ m. insert_by place (enumerate_from (n + 1) xs) (m, x)) (omega arith) ∙ insert_last (n + 1) xs x))

  -- one line is replaced
  module _ (x y : A) where
    after_place : (n : ℕ) (back : List A) → without_key place (enumerate_from (n + 1) back) (pos n) ≡ enumerate_from (n + 1) back
    after_place n back = go (n + 1) back (omega arith)
      where
        go : (m : ℕ) (ys : List A) → n < m → without_key place (enumerate_from m ys) (pos n) ≡ enumerate_from m ys
        go m [] h = refl
        go m (z ∷ ys) h = let apart : int_eq (pos m) (pos n) ≡ false = grind (arith, ints) in rw apart (ap (λ l. (m, z) ∷ l) (go (m + 1) ys (omega arith)))

    in_front : (n : ℕ) (back : List A) → insert_by place (enumerate_from (n + 1) back) (n, y) ≡ (n, y) ∷ enumerate_from (n + 1) back
    in_front n [] = refl
    in_front n (z ∷ back) = let high : int_cmp (pos (n + 1)) (pos n) ≡ Greater = grind (arith, ints) in rw high

    pub replaced : (n k : ℕ) (front back : List A) → k ≡ n + length front
        → insert_by place (without_key place (enumerate_from n (front ++ x ∷ back)) (pos k)) (k, y) ≡ enumerate_from n (front ++ y ∷ back)
    replaced n k [] back e =
        let same : k ≡ n = omega arith in
        let here : int_eq (pos n) (pos n) ≡ true = grind (arith, ints) in
        subst (λ m. insert_by place (without_key place (enumerate_from n (x ∷ back)) (pos m)) (m, y) ≡ enumerate_from n (y ∷ back)) (sym same)
        (rw here (ap (λ l. insert_by place l (n, y)) (after_place n back) ∙ in_front n back))
    replaced n k (z ∷ front) back e =
        let apart : int_eq (pos n) (pos k) ≡ false = grind (arith, ints) in
        let low : int_cmp (pos n) (pos k) ≡ Less = grind (arith, ints) in
        rw (apart, low) (ap (λ l. (n, z) ∷ l) (replaced (n + 1) k front back (omega arith)))

  -- the one line that passes a test
  none_of : (test : A → Bool) (n : ℕ) (xs : List A) → AllByRecursion (λ x. test x ≡ false) xs → filter (λ (line : ℕ × A). test line.1) (enumerate_from n xs) ≡ []
  none_of test n [] all = refl
  none_of test n (x ∷ xs) all = rw all.0 (none_of test (n + 1) xs all.1)

  pub one_of : (test : A → Bool) (n : ℕ) (front back : List A) (x : A) → AllByRecursion (λ y. test y ≡ false) front → test x ≡ true
      → AllByRecursion (λ y. test y ≡ false) back → filter (λ (line : ℕ × A). test line.1) (enumerate_from n (front ++ x ∷ back)) ≡ (n + length front, x) ∷ []
  one_of test n [] back x before here after = rw (here, none_of test (n + 1) back after) (ap (λ m. (m, x) ∷ []) (omega arith))
  one_of test n (y ∷ front) back x before here after = rw before.0 (one_of test (n + 1) front back x before.1 here after ∙ ap (λ m. (m, x) ∷ []) (omega arith))

-- ---- the lines between two places

abbrev pub is_between : {A : Type 0} → ℕ → ℕ → ℕ × A → Bool
is_between behind up_to line = int_lt (pos behind) (pos line.0) && int_le (pos line.0) (pos up_to)

-- what is rising is less
pub less_place : (m n : ℕ) → pos m <ℤ pos n → int_cmp (pos m) (pos n) ≡ Less
less_place m n h = grind (arith, ints)

not_behind : (b u n : ℕ) → n < b → (int_lt (pos b) (pos (n + 1)) && int_le (pos (n + 1)) (pos u)) ≡ false
not_behind b u n h = grind (arith, ints)

not_up_to : (b u n : ℕ) → u < n + 1 → (int_lt (pos b) (pos (n + 1)) && int_le (pos (n + 1)) (pos u)) ≡ false
not_up_to b u n h = grind (arith, ints)

is_there : (b u n : ℕ) → b < n + 1 → n < u → (int_lt (pos b) (pos (n + 1)) && int_le (pos (n + 1)) (pos u)) ≡ true
is_there b u n h k = grind (arith, ints)

module _ {A : Type 0} where
  abbrev nothing : List A
  nothing = []

  none_left : (k m : ℕ) → take k (drop m nothing) ≡ []
  none_left zero zero = refl
  none_left zero (suc m) = refl
  none_left (suc k) zero = refl
  none_left (suc k) (suc m) = refl

  abbrev lines_of : List (ℕ × A) → List A
  lines_of lines = map (λ (line : ℕ × A). line.1) lines

  pub lines_there : (b u n : ℕ) (xs : List A) → lines_of (filter (is_between b u) (enumerate_from (n + 1) xs)) ≡ take ((u - n) - (b - n)) (drop (b - n) xs)
  lines_there b u n [] = sym (none_left ((u - n) - (b - n)) (b - n))
  lines_there b u n (x ∷ xs) = go (nat_lt n b) (nat_lt n u) refl refl (lines_there b u (n + 1) xs)
    where
      rest : List A
      rest = lines_of (filter (is_between b u) (enumerate_from (n + 1 + 1) xs))

      kept : Bool → List A
      kept t = lines_of (cond t ((n + 1, x) ∷ filter (is_between b u) (enumerate_from (n + 1 + 1) xs)) (filter (is_between b u) (enumerate_from (n + 1 + 1) xs)))

      go : (s t : Bool) → nat_lt n b ≡ s → nat_lt n u ≡ t → rest ≡ take ((u - (n + 1)) - (b - (n + 1))) (drop (b - (n + 1)) xs)
          → kept (is_between b u (n + 1, x)) ≡ take ((u - n) - (b - n)) (drop (b - n) (x ∷ xs))
      go true t e f more =
          let low : n < b = grind (arith, nat_tests) in
          let skipped : suc (b - (n + 1)) ≡ b - n = omega (arith, low) in
          let left : (u - (n + 1)) - (b - (n + 1)) ≡ (u - n) - (b - n) = omega (arith, low) in
          ap kept (not_behind b u n low) ∙ more ∙ ap₂ (λ k m. take k (drop m (x ∷ xs))) left skipped
      go false true e f more =
          let low : b < n + 1 = grind (arith, nat_tests) in
          let high : n < u = grind (arith, nat_tests) in
          let before : b - (n + 1) ≡ 0 = omega (arith, low) in
          let none : 0 ≡ b - n = omega (arith, low) in
          let left : suc ((u - (n + 1)) - (b - (n + 1))) ≡ (u - n) - (b - n) = omega (arith, low, high) in
          ap kept (is_there b u n low high) ∙ ap (λ l. x ∷ l) (more ∙ ap (λ m. take ((u - (n + 1)) - (b - (n + 1))) (drop m xs)) before) ∙ ap₂ (λ k m. take k (drop m (x ∷ xs))) left none
      go false false e f more =
          let low : b < n + 1 = grind (arith, nat_tests) in
          let high : u < n + 1 = grind (arith, nat_tests) in
          let before : (u - (n + 1)) - (b - (n + 1)) ≡ 0 = omega (arith, high) in
          let left : 0 ≡ (u - n) - (b - n) = omega (arith, high) in
          ap kept (not_up_to b u n high) ∙ more ∙ ap (λ k. take k (drop (b - (n + 1)) xs)) before ∙ ap (λ k. take k (drop (b - n) (x ∷ xs))) left

-- ---- the rows of the lines
pub next_is : (n : ℕ) (xs : List VersionRow) → fold (λ _ r. id_in (rowid r) +ℤ pos 1) (pos n) (map (row_of) (enumerate_from n xs)) ≡ pos (n + length xs)
next_is n [] = ap pos (omega arith)
next_is n (x ∷ xs) = ap (λ z. fold (λ _ r. id_in (rowid r) +ℤ pos 1) z (map (row_of) (enumerate_from (n + 1) xs))) (omega (arith, ints)) ∙ next_is (n + 1) xs ∙ ap pos (omega arith)

pub put_last : (xs : List VersionRow) (x : VersionRow) → put_row (row_of (1 + length xs, x)) (rows_of xs) ≡ rows_of (xs ++ x ∷ [])
put_last xs x = puts-map place (row_of) (λ _. refl) ((1 + length xs, x) ∷ []) (enumerate_from 1 xs) ∙ ap (map (row_of)) (insert_last 1 xs x)
