-- Each shape counts in one cell, where it shares one with the asked cells, and else in none.
use Rattle.std.proofs.Common.{◌≡◌, ◌≢◌, ◌∙◌, ℕ, zero, suc, ◌+◌, ◌-◌, ◌<◌, ◌≤◌, max, Bool, true, false, ap, sym, refl, arith, ◌⊎◌, inl, inr, ◌==◌}
use Rattle.std.specs.Prelude.{◌&&◌, nat_le}
use Rattle.std.proofs.lemmas.Bool.{eq-eqb}
use Rattle.std.proofs.lemmas.Bool.Decides.{nat_tests}
use Rattle.cad_grid.specs.declared.cells.Cells.{Cells}
use Rattle.cad_grid.specs.Blocks.{share_a_cell}
use Rattle.cad_grid.specs.Counted.{block_at}
use Rattle.cad_grid.proofs.CountedTests.{shared_by_numbers}
use Rattle.cad_positions.specs.Hits.{once}
use Rattle.cad_positions.specs.Between.{below}
use Rattle.cad_grid.specs.Entries.{tally, in_row, in_all}

abbrev share : Cells → Cells → Bool
share a b = (nat_le a.left b.right && nat_le b.left a.right) && (nat_le a.low b.high && nat_le b.low a.high)

-- the first cell, by rows, that its own cells and the asked ones share
abbrev pub counts_first : Cells → Cells → ℕ → ℕ → Bool
counts_first own asked row column = ((row == max own.low asked.low) && (column == max own.left asked.left)) && (nat_le row asked.high && nat_le column asked.right)

tally_none : (f : ℕ → ℕ) (m a n : ℕ) → ((k : ℕ) → k ≢ m → f k ≡ 0) → (m < a) ⊎ (a + n ≤ m) → tally f a n ≡ 0
tally_none f m a zero off h = refl
tally_none f m a (suc n) off (inl h) = omega (arith, off a (λ e. absurd (omega arith)), tally_none f m (a + 1) n off (inl (omega arith)))
tally_none f m a (suc n) off (inr h) = omega (arith, off a (λ e. absurd (omega arith)), tally_none f m (a + 1) n off (inr (omega arith)))

tally_one : (f : ℕ → ℕ) (m a n : ℕ) → ((k : ℕ) → k ≢ m → f k ≡ 0) → a ≤ m → m < a + n → tally f a n ≡ f m
tally_one f m a zero off h k = absurd (omega arith)
tally_one f m a (suc n) off h k = elim (below a m) [
  | inl l ↦ omega (arith, off a (λ e. absurd (omega arith)), tally_one f m (a + 1) n off (omega arith) (omega arith))
  | inr l ↦ let e : a ≡ m = omega arith in rw e (omega (arith, tally_none f m (m + 1) n off (inl (omega arith))))
]

wrong_row : (own asked : Cells) (row column : ℕ) → row ≢ max own.low asked.low → once (counts_first own asked row column) ≡ 0
wrong_row own asked row column h = let e : (row == max own.low asked.low) ≡ false = grind (arith, nat_tests) in rw e refl

not_both : (a b c : Bool) → b ≡ false → once ((a && b) && c) ≡ 0
not_both a b c h = grind arith

wrong_column : (own asked : Cells) (row column : ℕ) → column ≢ max own.left asked.left → once (counts_first own asked row column) ≡ 0
wrong_column own asked row column h = let e : (column == max own.left asked.left) ≡ false = grind (arith, nat_tests) in not_both (row == max own.low asked.low) (column == max own.left asked.left) _ e

all_off : (f : ℕ → ℕ) (a n : ℕ) → ((k : ℕ) → f k ≡ 0) → tally f a n ≡ 0
all_off f a zero h = refl
all_off f a (suc n) h = omega (arith, h a, all_off f (a + 1) n h)

off_row : (own asked : Cells) (row : ℕ) → row ≢ max own.low asked.low → in_row (counts_first own asked) own row ≡ 0
off_row own asked row h = all_off _ own.left (own.right + 1 - own.left) (λ column. wrong_row own asked row column h)

greater_within : (a b c : ℕ) → b ≤ c → nat_le (max a b) c ≡ nat_le a c
greater_within a b c h = elim (below a b) [
  | inl l ↦ let e : max a b ≡ b = omega arith in let t : nat_le b c ≡ true = grind (arith, nat_tests) in let u : nat_le a c ≡ true = grind (arith, nat_tests) in rw (e, t, u) refl
  | inr l ↦ let e : max a b ≡ a = omega arith in rw e refl
]

under : (a b c : ℕ) → max a b ≤ c → nat_le b c ≡ true
under a b c h = let l : b ≤ c = omega arith in grind (arith, nat_tests)

over : (a b c : ℕ) → a ≤ c → c < max a b → nat_le b c ≡ false
over a b c h k = let l : c < b = omega arith in grind (arith, nat_tests)

exchanged : (a b : Bool) → (a && b) ≡ ((b && true) && (a && true))
exchanged a b = grind arith

here : (own asked : Cells) → max own.left asked.left ≤ own.right → max own.low asked.low ≤ own.high → once (counts_first own asked (max own.low asked.low) (max own.left asked.left)) ≡ once (share own asked)
here own asked h k = rw (
  eq-eqb (max own.low asked.low) (max own.low asked.low) refl,
  eq-eqb (max own.left asked.left) (max own.left asked.left) refl,
  greater_within own.low asked.low asked.high asked.tall,
  greater_within own.left asked.left asked.right asked.wide,
  under own.left asked.left own.right h,
  under own.low asked.low own.high k,
) (ap once (exchanged (nat_le own.low asked.high) (nat_le own.left asked.right)))

out_of_row : (a b c : Bool) → b ≡ false → 0 ≡ once ((a && b) && c)
out_of_row a b c h = grind arith

out_of_rows : (a b c : Bool) → c ≡ false → 0 ≡ once (a && (b && c))
out_of_rows a b c h = grind arith

last : (a b : ℕ) → a ≤ b → a + (b + 1 - a) ≡ b + 1
last a b h = omega arith

row_here : (own asked : Cells) → max own.left asked.left ≤ own.right → max own.low asked.low ≤ own.high → in_row (counts_first own asked) own (max own.low asked.low) ≡ once (share own asked)
row_here own asked h k = tally_one (λ column. once (counts_first own asked (max own.low asked.low) column)) (max own.left asked.left) own.left (own.right + 1 - own.left) (λ column n. wrong_column own asked (max own.low asked.low) column n) (omega arith) (omega (arith, last own.left own.right own.wide)) ∙ here own asked h k

row_past : (own asked : Cells) (row : ℕ) → own.right < max own.left asked.left → in_row (counts_first own asked) own row ≡ 0
row_past own asked row h = tally_none (λ column. once (counts_first own asked row column)) (max own.left asked.left) own.left (own.right + 1 - own.left) (λ column n. wrong_column own asked row column n) (inr (omega (arith, last own.left own.right own.wide)))

-- a shape that is not wide counts in one cell where it shares one with the asked cells, and else in none
once_share : (own asked : Cells) → in_all (counts_first own asked) own ≡ once (share own asked)
once_share own asked = elim (below own.right (max own.left asked.left)) [
  | inl h ↦ all_off (in_row (counts_first own asked) own) own.low (own.high + 1 - own.low) (λ row. row_past own asked row h) ∙ out_of_row (nat_le own.left asked.right) (nat_le asked.left own.right) _ (over own.left asked.left own.right own.wide h)
  | inr h ↦ elim (below own.high (max own.low asked.low)) [
    | inl k ↦ tally_none (in_row (counts_first own asked) own) (max own.low asked.low) own.low (own.high + 1 - own.low) (λ row n. off_row own asked row n) (inr (omega (arith, last own.low own.high own.tall))) ∙ out_of_rows _ (nat_le own.low asked.high) (nat_le asked.low own.high) (over own.low asked.low own.high own.tall k)
    | inr k ↦ tally_one (in_row (counts_first own asked) own) (max own.low asked.low) own.low (own.high + 1 - own.low) (λ row n. off_row own asked row n) (omega arith) (omega (arith, last own.low own.high own.tall)) ∙ row_here own asked h k
  ]
]

pub once_near : (own asked : Cells) → in_all (counts_first own asked) own ≡ once (share_a_cell (block_at own) (block_at asked))
once_near own asked = once_share own asked ∙ sym (ap once (shared_by_numbers own asked))
