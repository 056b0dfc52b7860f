-- What is left of an ascending list of positions.
use Rattle.std.proofs.Common.{◌≡◌, ◌∙◌, ⊎_elim, ℕ, zero, suc, ◌+◌, ◌<◌, ◌≤◌, Bool, true, false, ◌&&◌, ◌==◌, List, length, get_or, drop, drop-cons, add-zero, ap, refl, arith, eq-eqb}
use Rattle.std.specs.Prelude.{nat_le, Some}
use Rattle.std.proofs.lemmas.List.{get_or-drop, get_or_default, length-drop}
use Rattle.std.proofs.lemmas.List.Folds.{list_any_none}
use Rattle.std.proofs.lemmas.Bool.Decides.{nat_tests}
use Rattle.std.proofs.Math.Nat.{eq-or-lt_of_le}
use Rattle.std.specs.List.Sorted.{IsStrictlyIncreasing}
use Rattle.cad_positions.specs.Left.{Settles}
use Rattle.cad_positions.specs.Held.{is_left}

at_least : (rows : List ℕ) (at j : ℕ) → ((i j : ℕ) → i < j → j < length rows → get_or rows i 0 < get_or rows j 0) → at + j < length rows → get_or rows at 0 ≤ get_or rows (at + j) 0
at_least rows at zero up h = rw add-zero (omega arith)
at_least rows at (suc j) up h = omega (arith, up at (at + suc j) (omega arith) h)

apart : (a k : ℕ) → k < a → (a == k) ≡ false
apart a k h = grind (arith, nat_tests)

-- nothing below the front is left
pub none_below : (rows : List ℕ) (at k : ℕ) → ((i j : ℕ) → i < j → j < length rows → get_or rows i 0 < get_or rows j 0) → (at < length rows → k < get_or rows at 0) → is_left rows at k ≡ false
none_below rows at k up below = list_any_none (λ r. r == k) (drop at rows) (λ j d h.
    let within : at + j < length rows = omega (arith, length-drop at rows) in
    let e = get_or-drop at rows j d ∙ get_or_default rows (at + j) d 0 within in
    rw e (apart _ k (omega (arith, at_least rows at j up within, below (omega arith)))))

pub front_is_left : (rows : List ℕ) (at : ℕ) → at < length rows → is_left rows at (get_or rows at 0) ≡ true
front_is_left rows at h = rw (drop-cons rows at 0, eq-eqb (get_or rows at 0) (get_or rows at 0) refl) refl

above_or : (a t : Bool) → (t ≡ false → a ≡ false) → a ≡ (a && t)
above_or a t h = grind arith

-- what is left stands at the front or above
pub all_above : (rows : List ℕ) (at from k : ℕ) → ((i j : ℕ) → i < j → j < length rows → get_or rows i 0 < get_or rows j 0) → (at < length rows → from ≤ get_or rows at 0) → is_left rows at k ≡ (is_left rows at k && nat_le from k)
all_above rows at from k up above = above_or (is_left rows at k) (nat_le from k) (λ e. none_below rows at k up (λ h. let low : k < from = grind (arith, nat_tests) in omega (arith, above h)))

-- the first position from a bound on
pub found : (old rows : List ℕ) (begin at from row : ℕ) → ((i j : ℕ) → i < j → j < length rows → get_or rows i 0 < get_or rows j 0) → at < length rows → row ≡ get_or rows at row → from ≤ row → ((k : ℕ) → (is_left rows at k && nat_le from k) ≡ (is_left old begin k && nat_le from k)) → Settles (is_left old begin) (is_left rows at) from (Some row)
found old rows begin at from row up within read high same =
    let here : row ≡ get_or rows at 0 = read ∙ get_or_default rows at row 0 within in
    record {
      kept = λ k. all_above rows at from k up (λ h. omega arith) ∙ same k;
      front = rw here (front_is_left rows at within, λ k low. none_below rows at k up (λ h. low));
    }

-- each number is below all later ones
pub rises : (xs : List ℕ) → IsStrictlyIncreasing xs → (i j : ℕ) → i < j → j < length xs → get_or xs i 0 < get_or xs j 0
rises xs up i zero lt h = absurd (omega (arith, lt))
rises xs up i (suc j) lt h =
    let step : get_or xs j 0 < get_or xs (suc j) 0 = omega (arith, up j (omega arith), ap (λ k. get_or xs k 0) (let e : j + 1 ≡ suc j = omega arith in e)) in
    ⊎_elim
    (λ same. omega (arith, step, ap (λ k. get_or xs k 0) same))
    (λ less. omega (arith, step, rises xs up i j less (omega arith)))
    (eq-or-lt_of_le {n = i} {m = j} (omega arith))
