-- A grid of one feature after the other, and its entries sorted.
use Rattle.std.proofs.Common.{◌≡◌, ◌∙◌, ℕ, zero, suc, ◌+◌, ◌<◌, ◌≤◌, Bool, false, List, [], ◌∷◌, ◌++◌, length, map, take, get_or, ap, sym, arith, ◌==◌, Option, None}
use Rattle.std.specs.Prelude.{option_map}
use Rattle.std.specs.List.Sorted.{IsPermutation}
use Rattle.std.proofs.lemmas.Bool.Decides.{nat_tests}
use Rattle.std.proofs.lemmas.List.{length-map, length-take-le, map-append, map_more}
use Rattle.cad_feature.specs.Features.{Item}
use Rattle.cad_grid.specs.declared.cells.Cells.{Cells}
use Rattle.cad_grid.specs.Counted.{block_at}
use Rattle.cad_grid.specs.Near.{block_at_place}
use Rattle.cad_positions.specs.Hits.{picks_permutation}
use Rattle.cad_grid.specs.declared.entry.Entry.{Entry}
use Rattle.cad_grid.specs.Entries.{entered, for_position}
use Rattle.cad_grid.specs.Grids.{blocks_at}

pub blocks_more : (place : ℕ) (xs : List Item) (p : ℕ) (d : Item) (all : List (Option Cells)) (o : Option Cells) → p < length xs → map (option_map block_at) all ≡ blocks_at place (take p xs) → option_map block_at o ≡ block_at_place place (get_or xs p d) → map (option_map block_at) (all ++ o ∷ []) ≡ blocks_at place (take (p + 1) xs)
blocks_more place xs p d all o h e f = rw (map-append, e, f) (sym (map_more (block_at_place place) xs p d h))

pub all_counted : (place : ℕ) (xs : List Item) (p : ℕ) (all : List (Option Cells)) → p ≤ length xs → map (option_map block_at) all ≡ blocks_at place (take p xs) → length all ≡ p
all_counted place xs p all h e = sym (length-map all (option_map block_at)) ∙ ap length e ∙ length-map (take p xs) (block_at_place place) ∙ length-take-le p xs h

not_first : (n : ℕ) → (suc n == 0) ≡ false
not_first n = grind (arith, nat_tests)

not_last : (n : ℕ) → (0 == suc n) ≡ false
not_last n = grind (arith, nat_tests)

both_after : (m n : ℕ) → (suc m == suc n) ≡ (m == n)
both_after m n = grind (arith, nat_tests)

none_for : (m : ℕ) → m ≡ m + 0
none_for m = omega arith

module _ (f : Option Cells → ℕ) (none : f None ≡ 0) where
  one_more : (cells : List (Option Cells)) (o : Option Cells) (v : ℕ) → f (get_or (cells ++ o ∷ []) v None) ≡ f (get_or cells v None) + for_position (length cells) v (f o)
  one_more [] o zero = omega (arith, none)
  one_more [] o (suc v) = rw (not_last v) (none_for (f None))
  one_more (c ∷ cs) o zero = rw (not_first (length cs)) (none_for (f c))
  one_more (c ∷ cs) o (suc v) = rw (both_after (length cs) v) (one_more cs o v)

  pub kept_more : (cells : List (Option Cells)) (o : Option Cells) (v p old new : ℕ) → length cells ≡ p → old ≡ f (get_or cells v None) → new ≡ old + for_position p v (f o) → new ≡ f (get_or (cells ++ o ∷ []) v None)
  kept_more cells o v p old new n e g = g ∙ rw (e, ← n) (sym (one_more cells o v))

pub entered_moved : (q : ℕ → ℕ → Bool) (v : ℕ) (es sorted : List Entry) (count : ℕ) → IsPermutation es sorted → entered q v es ≡ count → entered q v sorted ≡ count
entered_moved q v es sorted count moved e = picks_permutation (λ x. q x.row x.column) (λ x. x.position) v es sorted moved ∙ e
