-- Positions that are looked at one after the other.
use Rattle.std.proofs.Common.{◌≡◌, ◌∙◌, ℕ, suc, ◌+◌, ◌-◌, ◌<◌, ◌≤◌, Bool, true, false, cond, List, [], ◌∷◌, ◌++◌, append_assoc, append-nil, length, map, get_or, ap, sym, refl, arith, Option, None}
use Rattle.std.specs.Prelude.{filter, option_map}
use Rattle.std.specs.List.{range_with_len}
use Rattle.std.proofs.lemmas.List.{length-map, get_or_default}
use Rattle.cad_grid.specs.declared.cells.Cells.{Cells}
use Rattle.cad_grid.specs.Counted.{block_at}
use Rattle.cad_grid.specs.Near.{is_candidate}
use Rattle.cad_grid.specs.Grids.{near_positions}
use Rattle.cad_grid.proofs.Near.{block_get}
use Rattle.std.proofs.lemmas.List.Elements.{filter_agree}

-- the shape at the position is near the asked cells
abbrev pub is_near_at : Cells → List (Option Cells) → ℕ → Bool
is_near_at asked cells p = is_candidate (block_at asked) (option_map block_at (get_or cells p None))

-- the positions from one on that are near
pub near_from : Cells → List (Option Cells) → ℕ → List ℕ
near_from asked cells from = filter (is_near_at asked cells) (range_with_len from (length cells - from))

all_near : (asked : Cells) (cells : List (Option Cells)) → near_positions (map (option_map block_at) cells) (block_at asked) ≡ near_from asked cells 0
unfolding near_positions near_from
all_near asked cells =
    let n : length (map (option_map block_at) cells) ≡ length cells = length-map cells (option_map block_at) in
    let m : length cells - 0 ≡ length cells = omega arith in
    rw (n, m) (filter_agree (λ p. is_candidate (block_at asked) (get_or (map (option_map block_at) cells) p None)) (is_near_at asked cells) (λ p. ap (is_candidate (block_at asked)) (block_get cells p)) (range_with_len 0 (length cells)))

pub none_left : (asked : Cells) (cells : List (Option Cells)) (from : ℕ) → length cells ≤ from → near_from asked cells from ≡ []
unfolding near_from
none_left asked cells from h = let e : length cells - from ≡ 0 = omega arith in rw e refl

pub one_left : (asked : Cells) (cells : List (Option Cells)) (from : ℕ) → from < length cells → near_from asked cells from ≡ cond (is_near_at asked cells from) (from ∷ near_from asked cells (from + 1)) (near_from asked cells (from + 1))
unfolding near_from
one_left asked cells from h = let e : length cells - from ≡ suc (length cells - (from + 1)) = omega arith in rw e refl

-- what is said of the shape at the position
pub said_at : (asked : Cells) (cells : List (Option Cells)) (p : ℕ) (x : Option Cells) (b : Bool) → p < length cells → x ≡ get_or cells p x → is_candidate (block_at asked) (option_map block_at x) ≡ b → is_near_at asked cells p ≡ b
said_at asked cells p x b h e s = ap (λ o. is_candidate (block_at asked) (option_map block_at o)) (get_or_default cells p None x h ∙ sym e) ∙ s

-- ---- listed

pub list_start : (asked : Cells) (cells : List (Option Cells)) → [] ++ near_from asked cells 0 ≡ near_positions (map (option_map block_at) cells) (block_at asked)
list_start asked cells = sym (all_near asked cells)

pub list_taken : (asked : Cells) (cells : List (Option Cells)) (from : ℕ) (found all : List ℕ) → from < length cells → is_near_at asked cells from ≡ true → found ++ near_from asked cells from ≡ all → (found ++ from ∷ []) ++ near_from asked cells (from + 1) ≡ all
list_taken asked cells from found all h t e = append_assoc found (from ∷ []) (near_from asked cells (from + 1)) ∙ ap (λ xs. found ++ xs) (sym (one_left asked cells from h ∙ rw t refl)) ∙ e

pub list_passed : (asked : Cells) (cells : List (Option Cells)) (from : ℕ) (found all : List ℕ) → from < length cells → is_near_at asked cells from ≡ false → found ++ near_from asked cells from ≡ all → found ++ near_from asked cells (from + 1) ≡ all
list_passed asked cells from found all h t e = ap (λ xs. found ++ xs) (sym (one_left asked cells from h ∙ rw t refl)) ∙ e

pub list_end : (asked : Cells) (cells : List (Option Cells)) (from : ℕ) (found all : List ℕ) → length cells ≤ from → found ++ near_from asked cells from ≡ all → found ≡ all
list_end asked cells from found all h e = sym (append-nil found) ∙ ap (λ xs. found ++ xs) (sym (none_left asked cells from h)) ∙ e

-- ---- counted

pub count_start : (keeps : ℕ → Bool) (asked : Cells) (cells : List (Option Cells)) → 0 + length (filter keeps (near_from asked cells 0)) ≡ length (filter keeps (near_positions (map (option_map block_at) cells) (block_at asked)))
count_start keeps asked cells = omega (arith, ap (λ l. length (filter keeps l)) (all_near asked cells))
