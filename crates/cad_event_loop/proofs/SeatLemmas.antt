-- A place of the land office's table that is filled, and all others.
use Rattle.std.proofs.Common.{◌≡◌, ℕ, zero, suc, ◌<◌, Bool, true, false, nat_eq, if◌then◌else◌, List, [], ◌∷◌, ◌++◌, length, set, Option, None, Some, refl, ap, subst, ◌∙◌, arith}
use Rattle.std.proofs.lemmas.Bool.{eqb-true}
use Rattle.std.proofs.lemmas.Bool.Decides.{nat_tests}
use Rattle.std.specs.List.{slice_get}
use Rattle.cad_event_loop.specs.declared.office.Office.{Office}
use Rattle.cad_event_loop.specs.inner.Offices.{seat_in}

other_number : (c d : ℕ) → nat_eq c d ≡ false → (c ≡ d → ⊥)
other_number c d h e = grind (arith, nat_tests)

set_here : {X : Type 0} (xs : List X) (c : ℕ) (y : X) → c < length xs → slice_get (set xs c y) c ≡ Some y
set_here [] c y h = absurd (omega (arith, h))
set_here (x ∷ xs) zero y h = refl
set_here (x ∷ xs) (suc c) y h = set_here xs c y (omega (arith, h))

set_apart : {X : Type 0} (xs : List X) (c d : ℕ) (y : X) → (c ≡ d → ⊥) → slice_get (set xs c y) d ≡ slice_get xs d
set_apart [] c d y h = refl
set_apart (x ∷ xs) zero zero y h = absurd (h refl)
set_apart (x ∷ xs) zero (suc d) y h = refl
set_apart (x ∷ xs) (suc c) zero y h = refl
set_apart (x ∷ xs) (suc c) (suc d) y h = set_apart xs c d y (λ e. h (ap suc e))

-- an item that is set, and all others
pub item_set : {X : Type 0} (xs : List X) (c d : ℕ) (y : X) → c < length xs → slice_get (set xs c y) d ≡ (if nat_eq c d then Some y else slice_get xs d)
item_set xs c d y within = go (nat_eq c d) refl
  where
    go : (same : Bool) → nat_eq c d ≡ same → slice_get (set xs c y) d ≡ (if same then Some y else slice_get xs d)
    go true e = subst (λ (at : ℕ). slice_get (set xs c y) at ≡ Some y) (eqb-true c d e) (set_here xs c y within)
    go false e = set_apart xs c d y (other_number c d e)

seat_one : {S J : Type 0} (y : Option (Office S J)) → seat_in (Some y) ≡ y
seat_one None = refl
seat_one (Some office) = refl

pub seat_set : {S J : Type 0} (xs : List (Option (Office S J))) (c d : ℕ) (y : Option (Office S J)) → c < length xs → seat_in (slice_get (set xs c y) d) ≡ (if nat_eq c d then y else seat_in (slice_get xs d))
seat_set xs c d y within = ap seat_in (item_set xs c d y within) ∙ go (nat_eq c d)
  where
    go : (same : Bool) → seat_in (if same then Some y else slice_get xs d) ≡ (if same then y else seat_in (slice_get xs d))
    go true = seat_one y
    go false = refl

-- no place is filled
abbrev pub AllFree : {S J : Type 0} → List (Option (Office S J)) → Type 0
AllFree xs = (c : ℕ) → seat_in (slice_get xs c) ≡ None

pub free_more : {S J : Type 0} (xs : List (Option (Office S J))) → AllFree xs → AllFree (xs ++ None ∷ [])
free_more [] free zero = refl
free_more [] free (suc c) = refl
free_more (x ∷ xs) free zero = free 0
free_more (x ∷ xs) free (suc c) = free_more xs (λ d. free (suc d)) c
