-- Signs of products, and sums with weights.
use Rattle.std.proofs.Common.{unsigned_abs, FitsSigned, mul-le-mul, ◌≤◌, zero, suc, ◌≡◌, ℤ, pos, negsuc, ◌+ℤ◌, ◌-ℤ◌, ◌*ℤ◌, neg_ℤ, ◌≤ℤ◌, ◌<ℤ◌, ◌⊎◌, inl, inr, arith}
use borrow.Author.Differences.{up, down, same_in, same_out, lt_out, le_out, below_in, at_most_in, sum_is_lem, neg_is}
use Rattle.std.proofs.lemmas.Int.{ints, by_lt_z, fits_signed_mul, unsigned_abs-mul}
use mir.Syntax.{w128}
use Rattle.cad_shape.specs.Coordinates.{IsDifference, IsProduct}
use Rattle.cad_shape.specs.Segments.{IsBetween}
use Rattle.cad_shape.proofs.Equations.{as_gap, gaps, gap_same}

-- sums, differences and orders: a product is a number of which nothing else is known
pub ruleset sums = (same_out, same_in, lt_out, le_out, below_in, at_most_in, sum_is_lem, neg_is)

pub grows : (a f : ℤ) → pos 0 ≤ℤ a → pos 0 <ℤ f → a ≤ℤ (a *ℤ f)
grows (pos a) (pos zero) h k = absurd (omega (arith, ints))
grows (pos a) (pos (suc f)) h k = omega (arith, ints)
grows (pos a) (negsuc f) h k = absurd (omega (arith, ints))
grows (negsuc a) f h k = absurd (omega (arith, ints))

pub times : (a b : ℤ) → pos 0 ≤ℤ a → pos 0 ≤ℤ b → pos 0 ≤ℤ (a *ℤ b)
times (pos a) (pos b) h k = omega (arith, ints)
times (pos a) (negsuc b) h k = absurd (omega (arith, ints))
times (negsuc a) b h k = absurd (omega (arith, ints))

pub cancels : (a b : ℤ) → pos 0 <ℤ a → pos 0 ≤ℤ (a *ℤ b) → pos 0 ≤ℤ b
cancels (pos zero) b h k = absurd (omega (arith, ints))
cancels (pos (suc a)) (pos b) h k = omega (arith, ints)
cancels (pos (suc a)) (negsuc b) h k = absurd (omega (arith, ints))
cancels (negsuc a) b h k = absurd (omega (arith, ints))

pub times-gap : (m a b : ℤ) → m *ℤ (b -ℤ a) ≡ m *ℤ b -ℤ m *ℤ a
times-gap m a b = rw (as_gap m, as_gap a, as_gap b) (simp gaps (gap_same _ _ _ _ (omega arith)))

-- a common factor above 0 keeps the order
pub times_below : (w a b : ℤ) → pos 0 <ℤ w → a <ℤ b → (w *ℤ a) <ℤ (w *ℤ b)
times_below w a b h k =
    let e = times-gap w a b in
    let g = grows w (b -ℤ a) (omega (arith, sums)) (omega (arith, sums)) in
    omega (arith, sums)

-- and so it does where they may be equal
pub keeps : (w a b : ℤ) → pos 0 <ℤ w → a ≤ℤ b → (w *ℤ a) ≤ℤ (w *ℤ b)
keeps w a b h k =
    let e = times-gap w a b in
    let g = times w (b -ℤ a) (omega (arith, sums)) (omega (arith, sums)) in
    omega (arith, sums)

mix_low : (m n a b : ℤ) → m *ℤ a +ℤ n *ℤ b ≡ (m +ℤ n) *ℤ a +ℤ n *ℤ (b -ℤ a)
mix_low m n a b = rw (as_gap m, as_gap n, as_gap a, as_gap b) (simp gaps (gap_same _ _ _ _ (omega arith)))

mix_high : (m n a b : ℤ) → m *ℤ a +ℤ n *ℤ b +ℤ m *ℤ (b -ℤ a) ≡ (m +ℤ n) *ℤ b
mix_high m n a b = rw (as_gap m, as_gap n, as_gap a, as_gap b) (simp gaps (gap_same _ _ _ _ (omega arith)))

swap_mix : (m n a b : ℤ) → m *ℤ (b -ℤ a) ≡ neg_ℤ (m *ℤ (a -ℤ b))
swap_mix m n a b = rw (as_gap m, as_gap a, as_gap b) (simp gaps (gap_same _ _ _ _ (omega arith)))

-- a sum with weights lies between its parts
pub mix_between : (m n a b : ℤ) → pos 0 ≤ℤ m → pos 0 ≤ℤ n → IsBetween ((m +ℤ n) *ℤ a) ((m +ℤ n) *ℤ b) (m *ℤ a +ℤ n *ℤ b)
mix_between m n a b h k =
    let low = mix_low m n a b in
    let high = mix_high m n a b in
    by_lt_z a b
    (λ l. let i = times n (b -ℤ a) k (omega (arith, sums)) in let j = times m (b -ℤ a) h (omega (arith, sums)) in inl (omega (arith, sums)))
    (λ l. let i = times n (a -ℤ b) k (omega (arith, sums)) in let j = times m (a -ℤ b) h (omega (arith, sums)) in
    let d = swap_mix n n a b in let e = swap_mix m m a b in inr (omega (arith, sums)))

pub times-neg : (a f : ℤ) → neg_ℤ a *ℤ f ≡ neg_ℤ (a *ℤ f)
times-neg a f = rw (as_gap a, as_gap f) (simp gaps (gap_same _ _ _ _ (omega arith)))

pub times_neg_right : (a b : ℤ) → a *ℤ neg_ℤ b ≡ neg_ℤ (a *ℤ b)
times_neg_right a b = rw (as_gap a, as_gap b) (simp gaps (gap_same _ _ _ _ (omega arith)))

-- weights of one sign under two numbers above 0 are both 0 where the sum is
pub no_weight : (a b f g : ℤ) → ((pos 0 ≤ℤ a) × (pos 0 ≤ℤ b)) ⊎ ((a ≤ℤ pos 0) × (b ≤ℤ pos 0)) → pos 0 <ℤ f → pos 0 <ℤ g → a *ℤ f +ℤ b *ℤ g ≡ pos 0 → b ≡ pos 0
no_weight a b f g (inl h) k l e =
    let i = grows a f h.0 k in
    let j = grows b g h.1 l in
    omega (arith, sums)
no_weight a b f g (inr h) k l e =
    let i = grows (neg_ℤ a) f (omega (arith, sums)) k in
    let j = grows (neg_ℤ b) g (omega (arith, sums)) l in
    let c = times-neg a f in
    let d = times-neg b g in
    omega (arith, sums)

-- ---- products of differences of coordinates fit
abs_within : (n : ℤ) → IsDifference n → unsigned_abs n ≤ 200000000000
abs_within (pos n) h = omega (arith, ints)
abs_within (negsuc n) h = omega (arith, ints)

within_abs : (n : ℤ) → unsigned_abs n ≤ 40000000000000000000000 → IsProduct n
within_abs (pos n) h = omega (arith, ints)
within_abs (negsuc n) h = omega (arith, ints)

pub product_fits : (a b : ℤ) → IsDifference a → IsDifference b → FitsSigned w128 (a *ℤ b)
product_fits a b h k = fits_signed_mul w128 a b 200000000000 200000000000 (abs_within a h) (abs_within b k) (omega arith)

pub product_within : (a b : ℤ) → IsDifference a → IsDifference b → IsProduct (a *ℤ b)
product_within a b h k = within_abs (a *ℤ b) (omega (arith, unsigned_abs-mul a b, mul-le-mul (abs_within a h) (abs_within b k)))
