-- What the walk finds is what is near.
use Rattle.std.proofs.Common.{◌≡◌, ◌∙◌, ℕ, zero, suc, ◌+◌, ◌-◌, ◌≤◌, max, Bool, true, false, cond, List, [], ◌∷◌, ◌++◌, length, map, get_or, ap, sym, refl, arith, ◌==◌, Option, Some, None, inl, inr}
use Rattle.std.specs.Prelude.{filter, ◌&&◌, ◌||◌, nat_le, option_map}
use Rattle.std.specs.List.{range_with_len}
use Rattle.std.specs.List.Sorted.{IsPermutation, IsNonDecreasing}
use Rattle.std.proofs.lemmas.Bool.Decides.{nat_tests}
use Rattle.std.proofs.lemmas.List.Kept.{IsStrictlyIncreasing-filter}
use Rattle.cad_grid.specs.declared.cells.Cells.{Cells}
use Rattle.cad_grid.specs.Blocks.{Block, is_wide, share_a_cell}
use Rattle.cad_grid.specs.Counted.{block_at}
use Rattle.cad_grid.specs.Near.{is_candidate}
use Rattle.cad_positions.specs.Hits.{hits, once, picks, hits_filter, hits_permutation, same_hits, non_decreasing_from_increasing}
use Rattle.cad_positions.specs.Between.{below, hits_in, hits_out, range_increases, same_length}
use Rattle.cad_grid.specs.declared.entry.Entry.{Entry}
use Rattle.cad_grid.specs.Entries.{tally, in_row, in_all, is_wide_at, small_tally, is_in_block, is_first_at, inside, counts, found_in, IsGrid}
use Rattle.cad_grid.specs.Grids.{near_positions}
use Rattle.cad_grid.proofs.PassingLemmas.{kept_picks, same_picked}
use Rattle.cad_grid.proofs.Once.{counts_first, once_near}

-- ---- a shape is found once, where it shares a cell

same_tally : (f g : ℕ → ℕ) (a n : ℕ) → ((k : ℕ) → f k ≡ g k) → tally f a n ≡ tally g a n
same_tally f g a zero e = refl
same_tally f g a (suc n) e = omega (arith, e a, same_tally f g (a + 1) n e)

-- the test of an entry inside that is the first of its shape
pub first_inside : Cells → Option Cells → ℕ → ℕ → Bool
first_inside asked o row column = is_in_block asked row column && is_first_at asked o row column

same_test : (ol oh al ah oL oR aL aR row column : ℕ) → (((nat_le al row && nat_le row ah) && (nat_le aL column && nat_le column aR)) && ((row == max ol al) && (column == max oL aL))) ≡ (((row == max ol al) && (column == max oL aL)) && (nat_le row ah && nat_le column aR))
same_test ol oh al ah oL oR aL aR row column = grind (arith, nat_tests)

own_test : (asked own : Cells) (row column : ℕ) → first_inside asked (Some own) row column ≡ counts_first own asked row column
unfolding first_inside
own_test asked own row column = same_test own.low own.high asked.low asked.high own.left own.right asked.left asked.right row column

own_tally : (asked own : Cells) → in_all (first_inside asked (Some own)) own ≡ once (share_a_cell (block_at own) (block_at asked))
own_tally asked own =
    same_tally (in_row (first_inside asked (Some own)) own) (in_row (counts_first own asked) own) own.low (own.high + 1 - own.low)
    (λ row. same_tally (λ column. once (first_inside asked (Some own) row column)) (λ column. once (counts_first own asked row column)) own.left (own.right + 1 - own.left) (λ column. ap once (own_test asked own row column)))
    ∙ once_near own asked

one_of : (w s : Bool) (n : ℕ) → n ≡ once s → once w + cond w 0 n ≡ once (w || s)
one_of true s n e = refl
one_of false s n e = omega (arith, e)

found_once : (asked : Cells) (o : Option Cells) → once (is_wide_at o) + small_tally (first_inside asked o) o ≡ once (is_candidate (block_at asked) (option_map block_at o))
found_once asked None = refl
found_once asked (Some own) = one_of (is_wide (block_at own)) (share_a_cell (block_at own) (block_at asked)) (in_all (first_inside asked (Some own)) own) (own_tally asked own)

-- ---- how often a position is found

hits_append : (v : ℕ) (xs ys : List ℕ) → hits v (xs ++ ys) ≡ hits v xs + hits v ys
hits_append v [] ys = omega arith
hits_append v (x ∷ xs) ys = omega (arith, hits_append v xs ys)

same_picks : {X : Type 0} → (p r : X → Bool) (f : X → ℕ) (v : ℕ) (xs : List X) → ((x : X) → (p x && (f x == v)) ≡ (r x && (f x == v))) → picks p f v xs ≡ picks r f v xs
same_picks p r f v [] e = refl
same_picks p r f v (x ∷ xs) e = omega (arith, ap once (e x), same_picks p r f v xs e)

both_false : (a b : Bool) → (a && false) ≡ (b && false)
both_false a b = grind arith

at_position : (g : ℕ → Bool) (a : Bool) (p v : ℕ) → ((a && g p) && (p == v)) ≡ ((a && g v) && (p == v))
at_position g a p v = elim (p == v) as (λ b. (b ≡ true → p ≡ v) → ((a && g p) && b) ≡ ((a && g v) && b)) [
  | true ↦ λ e. ap (λ n. (a && g n) && true) (e refl)
  | false ↦ λ e. both_false (a && g p) (a && g v)
] (λ e. grind (arith, nat_tests))

pub found_hits : (asked : Cells) (cells : List (Option Cells)) (wide : List ℕ) (entries : List Entry) → IsGrid cells wide entries → (v : ℕ) → hits v (found_in asked cells wide entries) ≡ once (is_candidate (block_at asked) (option_map block_at (get_or cells v None)))
unfolding first_inside
found_hits asked cells wide entries grid v =
    let o = get_or cells v None in
    let seen : hits v (map (λ (e : Entry). e.position) (filter (counts asked cells) entries)) ≡ small_tally (first_inside asked o) o =
    hits_filter (counts asked cells) (λ e. e.position) v entries
    ∙ same_picks (counts asked cells) (λ e. first_inside asked o e.row e.column) (λ e. e.position) v entries (λ e. at_position (λ p. is_first_at asked (get_or cells p None) e.row e.column) (inside asked e) e.position v)
    ∙ grid.entered_once (first_inside asked o) v in
    omega (arith, hits_append v wide (map (λ (e : Entry). e.position) (filter (counts asked cells) entries)), grid.listed v, seen, found_once asked o)

-- ---- how often a position is near

pub block_get : (cells : List (Option Cells)) (v : ℕ) → get_or (map (option_map block_at) cells) v None ≡ option_map block_at (get_or cells v None)
block_get [] v = refl
block_get (c ∷ cs) zero = refl
block_get (c ∷ cs) (suc v) = block_get cs v

past : (blocks : List (Option Block)) (v : ℕ) → length blocks ≤ v → get_or blocks v None ≡ None
past [] v h = refl
past (b ∷ bs) zero h = absurd (omega arith)
past (b ∷ bs) (suc v) h = past bs v (omega arith)

near_hits : (blocks : List (Option Block)) (asked : Block) (v : ℕ) → hits v (near_positions blocks asked) ≡ once (is_candidate asked (get_or blocks v None))
unfolding near_positions
near_hits blocks asked v = elim (below v (length blocks)) [
  | inl h ↦ hits_in (λ p. is_candidate asked (get_or blocks p None)) v 0 (length blocks) (omega arith) (omega arith)
  | inr h ↦ hits_out (λ p. is_candidate asked (get_or blocks p None)) v 0 (length blocks) (inr (omega arith)) ∙ rw (past blocks v h) refl
]

same_found : (asked : Cells) (block : Block) (cells : List (Option Cells)) (wide : List ℕ) (entries : List Entry) → IsGrid cells wide entries → block_at asked ≡ block → (v : ℕ) → hits v (found_in asked cells wide entries) ≡ hits v (near_positions (map (option_map block_at) cells) block)
same_found asked block cells wide entries grid e v =
    found_hits asked cells wide entries grid v ∙ sym (near_hits (map (option_map block_at) cells) block v ∙ rw (block_get cells v, e) refl)

same_kept : (keeps : ℕ → Bool) (v : ℕ) (xs ys : List ℕ) → hits v xs ≡ hits v ys → hits v (filter keeps xs) ≡ hits v (filter keeps ys)
same_kept keeps v xs ys e =
    let own : (zs : List ℕ) → hits v (filter keeps zs) ≡ picks (λ x. keeps v) (λ x. x) v zs = λ zs. kept_picks keeps v zs ∙ same_picks keeps (λ x. keeps v) (λ x. x) v zs (λ x. at_position keeps true x v) in
    own xs ∙ same_picked (keeps v) v xs ys e ∙ sym (own ys)

pub found_kept : (keeps : ℕ → Bool) (asked : Cells) (block : Block) (cells : List (Option Cells)) (wide : List ℕ) (entries : List Entry) → IsGrid cells wide entries → block_at asked ≡ block → length (filter keeps (found_in asked cells wide entries)) ≡ length (filter keeps (near_positions (map (option_map block_at) cells) block))
found_kept keeps asked block cells wide entries grid e = same_length _ _ (λ v. same_kept keeps v _ _ (same_found asked block cells wide entries grid e v))

near_ascends : (blocks : List (Option Block)) (asked : Block) → IsNonDecreasing (near_positions blocks asked)
unfolding near_positions
near_ascends blocks asked = non_decreasing_from_increasing _ (IsStrictlyIncreasing-filter (λ p. is_candidate asked (get_or blocks p None)) (range_with_len 0 (length blocks)) (range_increases 0 (length blocks)))

pub found_sorted : (asked : Cells) (block : Block) (cells : List (Option Cells)) (wide : List ℕ) (entries : List Entry) (sorted : List ℕ) → IsGrid cells wide entries → block_at asked ≡ block → IsPermutation (found_in asked cells wide entries) sorted → IsNonDecreasing sorted → sorted ≡ near_positions (map (option_map block_at) cells) block
found_sorted asked block cells wide entries sorted grid e moved up =
    same_hits sorted (near_positions (map (option_map block_at) cells) block) up (near_ascends (map (option_map block_at) cells) block)
    (λ v. hits_permutation v (found_in asked cells wide entries) sorted moved ∙ same_found asked block cells wide entries grid e v)
