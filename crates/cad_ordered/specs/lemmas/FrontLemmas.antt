-- Texts with different fronts are in the order of these.
use Rattle.std.proofs.Common.{◌≡◌, ℕ, zero, suc, ◌+◌, ◌*◌, ◌^◌, ◌<◌, ◌≤◌, List, [], ◌∷◌, refl, sym, ap, ap₂, ◌∙◌, arith, inl, inr, ◌⊎◌, drop, get_or, Fits, w8}
use Rattle.std.specs.Ordering.{nat_cmp, ordering_then}
use Rattle.std.specs.declared.cmp.Ordering.{Ordering}
use Rattle.std.specs.declared.cmp.Ordering.TheVariants.{Less, Equal, Greater}
use Rattle.std.specs.Cmp.Lexicographic.{slice_cmp}
use Rattle.std.proofs.Math.Nat.{mul-le-mul_left}
use Rattle.cql_text.specs.CodePoints.{cmp_less, cmp_equal, cmp_greater}
use Rattle.cad_ordered.specs.Fronts.{front_of, AreBytes}
use Rattle.cad_ordered.specs.TwoFronts.{AreFrontsOf, fronts_cmp}
use Rattle.cad_ordered.specs.declared.text_key.Fronts.{Fronts}

pub from_fits : (xs : List ℕ) → ((i : ℕ) → Fits w8 (get_or xs i 0)) → AreBytes xs
from_fits xs h i = let k = h i in omega (arith, k)

one_of : (m n : ℕ) → (m < n) ⊎ ((m ≡ n) ⊎ (n < m))
one_of m n = grind arith

pub front_small : (n : ℕ) (xs : List ℕ) → AreBytes xs → front_of n xs < 256 ^ n
front_small zero xs all = omega arith
front_small (suc n) [] all = let h = front_small n [] all in omega (arith, h)
front_small (suc n) (x ∷ xs) all =
    let h = front_small n xs (λ i. all (suc i)) in
    let k = mul-le-mul_left (256 ^ n) (all 0) in
    omega (arith, h, k)

-- one digit more
digit_less : (w x y f g : ℕ) → x < y → f < w → x * w + f < y * w + g
digit_less w x y f g h l = let k = mul-le-mul_left w h in omega (arith, k, l)

same_digit : (w x y f g : ℕ) → x ≡ y → nat_cmp (x * w + f) (y * w + g) ≡ nat_cmp f g
same_digit w x y f g e = by (one_of f g)
  where
    by : (f < g) ⊎ ((f ≡ g) ⊎ (g < f)) → nat_cmp (x * w + f) (y * w + g) ≡ nat_cmp f g
    by (inl h) = cmp_less (x * w + f) (y * w + g) (rw e (omega (arith, h))) ∙ sym (cmp_less f g h)
    by (inr (inl h)) = cmp_equal (x * w + f) (y * w + g) (rw (e, h) refl) ∙ sym (cmp_equal f g h)
    by (inr (inr h)) = cmp_greater (x * w + f) (y * w + g) (rw e (omega (arith, h))) ∙ sym (cmp_greater f g h)

-- what comes before an empty text, and what comes behind it
none_first : (f : ℕ) → ordering_then (nat_cmp 0 f) Less ≡ Less
none_first zero = ap (λ o. ordering_then o Less) (cmp_equal 0 0 refl)
none_first (suc f) = ap (λ o. ordering_then o Less) (cmp_less 0 (suc f) (omega arith))

none_last : (f : ℕ) → ordering_then (nat_cmp f 0) Greater ≡ Greater
none_last zero = ap (λ o. ordering_then o Greater) (cmp_equal 0 0 refl)
none_last (suc f) = ap (λ o. ordering_then o Greater) (cmp_greater (suc f) 0 (omega arith))

-- the order of texts is that of their fronts, and if these are the same, that of the texts
pub front_first : (n : ℕ) (xs ys : List ℕ) → AreBytes xs → AreBytes ys → ordering_then (nat_cmp (front_of n xs) (front_of n ys)) (slice_cmp nat_cmp xs ys) ≡ slice_cmp nat_cmp xs ys
front_first zero xs ys a b = ap (λ o. ordering_then o (slice_cmp nat_cmp xs ys)) (cmp_equal 0 0 refl)
front_first (suc n) [] [] a b = ap (λ o. ordering_then o Equal) (cmp_equal 0 0 refl)
front_first (suc n) [] (y ∷ ys) a b = none_first (y * 256 ^ n + front_of n ys)
front_first (suc n) (x ∷ xs) [] a b = none_last (x * 256 ^ n + front_of n xs)
front_first (suc n) (x ∷ xs) (y ∷ ys) a b = by (one_of x y) (front_first n xs ys (λ i. a (suc i)) (λ i. b (suc i)))
  where
    f : ℕ
    f = front_of n xs

    g : ℕ
    g = front_of n ys

    rest : Ordering
    rest = slice_cmp nat_cmp xs ys

    by : (x < y) ⊎ ((x ≡ y) ⊎ (y < x)) → ordering_then (nat_cmp f g) rest ≡ rest → ordering_then (nat_cmp (x * 256 ^ n + f) (y * 256 ^ n + g)) (ordering_then (nat_cmp x y) rest) ≡ ordering_then (nat_cmp x y) rest
    by (inl h) behind = ap₂ (λ o p. ordering_then o (ordering_then p rest)) (cmp_less _ _ (digit_less (256 ^ n) x y f g h (front_small n xs (λ i. a (suc i))))) (cmp_less x y h) ∙ sym (ap (λ p. ordering_then p rest) (cmp_less x y h))
    by (inr (inl h)) behind = ap₂ (λ o p. ordering_then o (ordering_then p rest)) (same_digit (256 ^ n) x y f g h) (cmp_equal x y h) ∙ behind ∙ sym (ap (λ p. ordering_then p rest) (cmp_equal x y h))
    by (inr (inr h)) behind = ap₂ (λ o p. ordering_then o (ordering_then p rest)) (cmp_greater _ _ (digit_less (256 ^ n) y x g f h (front_small n ys (λ i. b (suc i))))) (cmp_greater x y h) ∙ sym (ap (λ p. ordering_then p rest) (cmp_greater x y h))

front_none : (m : ℕ) → front_of m [] ≡ 0
front_none zero = refl
front_none (suc m) = refl

-- so is that of their fronts and of the fronts behind these
pub fronts_first : (n m : ℕ) (xs ys : List ℕ) → AreBytes xs → AreBytes ys → ordering_then (nat_cmp (front_of n xs) (front_of n ys)) (ordering_then (nat_cmp (front_of m (drop n xs)) (front_of m (drop n ys))) (slice_cmp nat_cmp xs ys)) ≡ slice_cmp nat_cmp xs ys
fronts_first zero m xs ys a b = ap (λ o. ordering_then o (ordering_then (nat_cmp (front_of m xs) (front_of m ys)) (slice_cmp nat_cmp xs ys))) (cmp_equal 0 0 refl) ∙ front_first m xs ys a b
fronts_first (suc n) m [] [] a b = ap (λ o. ordering_then o (ordering_then (nat_cmp (front_of m []) (front_of m [])) Equal)) (cmp_equal 0 0 refl) ∙ ap (λ o. ordering_then o Equal) (cmp_equal (front_of m []) (front_of m []) refl)
fronts_first (suc n) m [] (y ∷ ys) a b =
    ap (ordering_then (nat_cmp 0 (y * 256 ^ n + front_of n ys))) (ap (λ k. ordering_then (nat_cmp k (front_of m (drop n ys))) Less) (front_none m) ∙ none_first (front_of m (drop n ys))) ∙ none_first (y * 256 ^ n + front_of n ys)
fronts_first (suc n) m (x ∷ xs) [] a b =
    ap (ordering_then (nat_cmp (x * 256 ^ n + front_of n xs) 0)) (ap (λ k. ordering_then (nat_cmp (front_of m (drop n xs)) k) Greater) (front_none m) ∙ none_last (front_of m (drop n xs))) ∙ none_last (x * 256 ^ n + front_of n xs)
fronts_first (suc n) m (x ∷ xs) (y ∷ ys) a b = by (one_of x y) (fronts_first n m xs ys (λ i. a (suc i)) (λ i. b (suc i)))
  where
    f : ℕ
    f = front_of n xs

    g : ℕ
    g = front_of n ys

    then : Ordering
    then = nat_cmp (front_of m (drop n xs)) (front_of m (drop n ys))

    rest : Ordering
    rest = slice_cmp nat_cmp xs ys

    by : (x < y) ⊎ ((x ≡ y) ⊎ (y < x)) → ordering_then (nat_cmp f g) (ordering_then then rest) ≡ rest → ordering_then (nat_cmp (x * 256 ^ n + f) (y * 256 ^ n + g)) (ordering_then then (ordering_then (nat_cmp x y) rest)) ≡ ordering_then (nat_cmp x y) rest
    by (inl h) behind = ap (λ o. ordering_then o (ordering_then then (ordering_then (nat_cmp x y) rest))) (cmp_less _ _ (digit_less (256 ^ n) x y f g h (front_small n xs (λ i. a (suc i))))) ∙ sym (ap (λ p. ordering_then p rest) (cmp_less x y h))
    by (inr (inl h)) behind = ap₂ (λ o p. ordering_then o (ordering_then then (ordering_then p rest))) (same_digit (256 ^ n) x y f g h) (cmp_equal x y h) ∙ behind ∙ sym (ap (λ p. ordering_then p rest) (cmp_equal x y h))
    by (inr (inr h)) behind = ap (λ o. ordering_then o (ordering_then then (ordering_then (nat_cmp x y) rest))) (cmp_greater _ _ (digit_less (256 ^ n) y x g f h (front_small n ys (λ i. b (suc i))))) ∙ sym (ap (λ p. ordering_then p rest) (cmp_greater x y h))

then_then : (a b c : Ordering) → ordering_then (ordering_then a b) c ≡ ordering_then a (ordering_then b c)
then_then Less b c = refl
then_then Equal b c = refl
then_then Greater b c = refl

-- the order of texts is that of their two numbers, and if these are the same, that of the texts
pub by_fronts : (f g : Fronts) (xs ys : List ℕ) → AreFrontsOf f xs → AreFrontsOf g ys → ordering_then (fronts_cmp f g) (slice_cmp nat_cmp xs ys) ≡ slice_cmp nat_cmp xs ys
by_fronts f g xs ys a b =
    then_then (nat_cmp f.first g.first) (nat_cmp f.second g.second) (slice_cmp nat_cmp xs ys)
    ∙ ap₂ (λ m n. ordering_then (nat_cmp m n) (ordering_then (nat_cmp f.second g.second) (slice_cmp nat_cmp xs ys))) a.first_is b.first_is
    ∙ ap₂ (λ m n. ordering_then (nat_cmp (front_of 8 xs) (front_of 8 ys)) (ordering_then (nat_cmp m n) (slice_cmp nat_cmp xs ys))) a.second_is b.second_is
    ∙ fronts_first 8 8 xs ys a.are_bytes b.are_bytes

-- each power of 256 below the eighth is at most the seventh
pub power_small : (n : ℕ) → n < 8 → 256 ^ n ≤ 72057594037927936
power_small zero h = omega arith
power_small (suc zero) h = omega arith
power_small (suc (suc zero)) h = omega arith
power_small (suc (suc (suc zero))) h = omega arith
power_small (suc (suc (suc (suc zero)))) h = omega arith
power_small (suc (suc (suc (suc (suc zero))))) h = omega arith
power_small (suc (suc (suc (suc (suc (suc zero)))))) h = omega arith
power_small (suc (suc (suc (suc (suc (suc (suc zero))))))) h = omega arith
power_small (suc (suc (suc (suc (suc (suc (suc (suc n)))))))) h = absurd (omega (arith, h))

raised : (x w f d : ℕ) → x * (256 * w) + (f * 256 + d) ≡ (x * w + f) * 256 + d
raised x w f d = grind arith

power_next : (n : ℕ) → 256 ^ suc n ≡ 256 * 256 ^ n
power_next n = omega arith

front_after : (n : ℕ) (xs : List ℕ) → front_of (suc n) xs ≡ front_of n xs * 256 + get_or xs n 0
front_after zero [] = refl
front_after zero (x ∷ xs) = omega arith
front_after (suc n) [] = refl
front_after (suc n) (x ∷ xs) = ap₂ (λ w f. x * w + f) (power_next n) (front_after n xs) ∙ raised x (256 ^ n) (front_of n xs) (get_or xs n 0)

-- one byte more
pub front_next : (n : ℕ) (xs : List ℕ) → front_of (n + 1) xs ≡ front_of n xs * 256 + get_or xs n 0
front_next n xs = let e : n + 1 ≡ suc n = omega arith in rw e (front_after n xs)

pub front_fits : (n : ℕ) (xs : List ℕ) → n < 8 → AreBytes xs → front_of n xs * 256 + get_or xs n 0 < 18446744073709551616
front_fits n xs h all =
    let small = front_small n xs all in
    let power = power_small n h in
    let digit = all n in
    omega (arith, small, power, digit)
