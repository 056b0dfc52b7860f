-- Lists in which one element is another.
use Rattle.std.proofs.Common.{◌≡◌, ◌<◌, ◌+◌, ℕ, zero, suc, Option, Some, None, List, [], ◌∷◌, ◌++◌, length, set, get_or, refl, arith}
use Rattle.cad_grid.specs.Near.{block_in}
use Rattle.cad_feature.specs.Values.{Datum}
use Rattle.cad_extents.specs.Extents.{any, Holds, HoldsCells}
use Rattle.cad_extents.specs.declared.cells.CellExtent.TheVariants as cells
use Rattle.cad_grid.specs.Blocks.{Block}

-- what holds of the new one at its place, and of the others at theirs, holds of each
pub set_held : {X : Type 0} (P : ℕ → X → Type 0) (xs : List X) (i : ℕ) (y d : X) → i < length xs → P i y → ((k : ℕ) → (k ≡ i → ⊥) → P k (get_or xs k d)) → (k : ℕ) → P k (get_or (set xs i y) k d)
set_held P [] i y d l h others k = absurd (omega (arith, l))
set_held P (x ∷ xs) zero y d l h others zero = h
set_held P (x ∷ xs) zero y d l h others (suc k) = others (suc k) (λ e. absurd (omega (arith, e)))
set_held P (x ∷ xs) (suc i) y d l h others zero = others zero (λ e. absurd (omega (arith, e)))
set_held P (x ∷ xs) (suc i) y d l h others (suc k) = set_held (λ k e. P (suc k) e) xs i y d (omega (arith, l)) h (λ k n. others (suc k) (λ e. n (omega (arith, e)))) k

-- any value is one of any
pub any_held : (d : Datum) → Holds any d
any_held d = (refl, tt, go (block_in d))
  where
    go : (b : Option Block) → HoldsCells cells.Any b
    go None = tt
    go (Some own) = tt

-- what stands at a place of the list is the same whatever is said to stand past its end
pub same_inside : {X : Type 0} (xs : List X) (i : ℕ) (d e : X) → i < length xs → get_or xs i d ≡ get_or xs i e
same_inside [] i d e l = absurd (omega (arith, l))
same_inside (x ∷ xs) zero d e l = refl
same_inside (x ∷ xs) (suc i) d e l = same_inside xs i d e (omega (arith, l))

-- what holds of each, and of what is said to stand past the end, holds of all places
pub all_held : {X : Type 0} (P : ℕ → X → Type 0) (xs : List X) (d : X) → ((k : ℕ) → k < length xs → P k (get_or xs k d)) → ((k : ℕ) → P k d) → (k : ℕ) → P k (get_or xs k d)
all_held P [] d each past k = past k
all_held P (x ∷ xs) d each past zero = each zero (omega arith)
all_held P (x ∷ xs) d each past (suc k) = all_held (λ i e. P (suc i) e) xs d (λ i h. each (suc i) (omega (arith, h))) (λ i. past (suc i)) k

-- what holds of each at its place, and of one more at the end, holds of all
pub grown : {X : Type 0} (P : ℕ → X → Type 0) (xs : List X) (y d : X) → ((k : ℕ) → k < length xs → P k (get_or xs k d)) → P (length xs) y → (k : ℕ) → k < length (xs ++ y ∷ []) → P k (get_or (xs ++ y ∷ []) k d)
grown P [] y d each last zero h = last
grown P [] y d each last (suc k) h = absurd (omega (arith, h))
grown P (x ∷ xs) y d each last zero h = each zero (omega arith)
grown P (x ∷ xs) y d each last (suc k) h = grown (λ i e. P (suc i) e) xs y d (λ i l. each (suc i) (omega (arith, l))) last k (omega (arith, h))

pub length-snoc : {X : Type 0} (xs : List X) (y : X) → length (xs ++ y ∷ []) ≡ length xs + 1
length-snoc [] y = refl
length-snoc (x ∷ xs) y = let h = length-snoc xs y in omega (arith, h)
