-- Neighbours share more than their corner exactly where the way over it goes straight back.
use Rattle.std.proofs.Common.{zero, suc, ◌≡◌, ℤ, pos, negsuc, ◌+ℤ◌, ◌-ℤ◌, ◌*ℤ◌, ◌≤ℤ◌, ◌<ℤ◌, refl, sym, ap, ◌∙◌, arith}
use lib.IntN.{*ℤ-zero, zero-*ℤ, ℤ_discrete}
use Rattle.std.proofs.lemmas.Int.{ints, by_lt_z}
use Rattle.cad_shape.specs.Segments.{IsBetween, turn}
use Rattle.cad_shape.specs.Crossings.{IsMore, ShareMore, along}
use Rattle.cad_shape.specs.declared.point.Point.{Point}
use Rattle.cad_shape.proofs.Equations.{as_gap, gaps, gap_same}
use Rattle.cad_shape.proofs.Signs.{sums, grows, times-gap, keeps}
use Rattle.cad_shape.proofs.SharedPoints.{on_mix, other_way}

square : (z : ℤ) → pos 0 ≤ℤ (z *ℤ z)
square (pos n) = omega (arith, ints)
square (negsuc n) = omega (arith, ints)

zero_product : (a b : ℤ) → a *ℤ b ≡ pos 0 → ¬ (b ≡ pos 0) → a ≡ pos 0
zero_product (pos zero) b e n = refl
zero_product (pos (suc a)) (pos zero) e n = absurd (n refl)
zero_product (pos (suc a)) (pos (suc b)) e n = absurd (omega (arith, ints))
zero_product (pos (suc a)) (negsuc b) e n = absurd (omega (arith, ints))
zero_product (negsuc a) (pos zero) e n = absurd (n refl)
zero_product (negsuc a) (pos (suc b)) e n = absurd (omega (arith, ints))
zero_product (negsuc a) (negsuc b) e n = absurd (omega (arith, ints))

-- ---- equations; a is p - c, b is s - c
at_corner : (px py cx cy sx sy : ℤ) → (cx -ℤ px) *ℤ (sy -ℤ py) -ℤ (cy -ℤ py) *ℤ (sx -ℤ px) ≡ (py -ℤ cy) *ℤ (sx -ℤ cx) -ℤ (px -ℤ cx) *ℤ (sy -ℤ cy)
at_corner px py cx cy sx sy = rw (as_gap px, as_gap py, as_gap cx, as_gap cy, as_gap sx, as_gap sy) (simp gaps (gap_same _ _ _ _ (omega arith)))

parallel_x : (a b i j : ℤ) → (i *ℤ i +ℤ j *ℤ j) *ℤ a ≡ (a *ℤ i +ℤ b *ℤ j) *ℤ i -ℤ (b *ℤ i -ℤ a *ℤ j) *ℤ j
parallel_x a b i j = rw (as_gap a, as_gap b, as_gap i, as_gap j) (simp gaps (gap_same _ _ _ _ (omega arith)))

parallel_y : (a b i j : ℤ) → (i *ℤ i +ℤ j *ℤ j) *ℤ b ≡ (a *ℤ i +ℤ b *ℤ j) *ℤ j +ℤ (b *ℤ i -ℤ a *ℤ j) *ℤ i
parallel_y a b i j = rw (as_gap a, as_gap b, as_gap i, as_gap j) (simp gaps (gap_same _ _ _ _ (omega arith)))

spread : (a b i j m : ℤ) → (a *ℤ i +ℤ b *ℤ j) *ℤ m ≡ a *ℤ (m *ℤ i) +ℤ b *ℤ (m *ℤ j)
spread a b i j m = rw (as_gap a, as_gap b, as_gap i, as_gap j, as_gap m) (simp gaps (gap_same _ _ _ _ (omega arith)))

moved_mix : (m n p c : ℤ) → (m *ℤ p +ℤ n *ℤ c) -ℤ (m +ℤ n) *ℤ c ≡ m *ℤ (p -ℤ c)
moved_mix m n p c = rw (as_gap m, as_gap n, as_gap p, as_gap c) (simp gaps (gap_same _ _ _ _ (omega arith)))

line_at : (px py cx cy x y w : ℤ) → (cx -ℤ px) *ℤ (y -ℤ w *ℤ py) -ℤ (cy -ℤ py) *ℤ (x -ℤ w *ℤ px) ≡ (py -ℤ cy) *ℤ (x -ℤ w *ℤ cx) -ℤ (px -ℤ cx) *ℤ (y -ℤ w *ℤ cy)
line_at px py cx cy x y w = rw (as_gap px, as_gap py, as_gap cx, as_gap cy, as_gap x, as_gap y, as_gap w) (simp gaps (gap_same _ _ _ _ (omega arith)))

cross_x : (a b i j m n : ℤ) → (b *ℤ i -ℤ a *ℤ j) *ℤ m ≡ i *ℤ (b *ℤ m -ℤ a *ℤ n) +ℤ a *ℤ (i *ℤ n -ℤ j *ℤ m)
cross_x a b i j m n = rw (as_gap a, as_gap b, as_gap i, as_gap j, as_gap m, as_gap n) (simp gaps (gap_same _ _ _ _ (omega arith)))

cross_y : (a b i j m n : ℤ) → (b *ℤ i -ℤ a *ℤ j) *ℤ n ≡ j *ℤ (b *ℤ m -ℤ a *ℤ n) +ℤ b *ℤ (i *ℤ n -ℤ j *ℤ m)
cross_y a b i j m n = rw (as_gap a, as_gap b, as_gap i, as_gap j, as_gap m, as_gap n) (simp gaps (gap_same _ _ _ _ (omega arith)))

both_turned : (p c s : ℤ) → (p -ℤ c) *ℤ (s -ℤ c) ≡ (c -ℤ p) *ℤ (c -ℤ s)
both_turned p c s = rw (as_gap p, as_gap c, as_gap s) (simp gaps (gap_same _ _ _ _ (omega arith)))

-- ---- the test shows that they share more
pub more_from : (p c s : Point) → turn p c s ≡ pos 0 → pos 0 <ℤ along p c s → ShareMore p c s
more_from p c s e h =
    let a = p.x -ℤ c.x in
    let b = p.y -ℤ c.y in
    let i = s.x -ℤ c.x in
    let j = s.y -ℤ c.y in
    let m = i *ℤ i +ℤ j *ℤ j in
    let n = along p c s in
    let d = at_corner p.x p.y c.x c.y s.x s.y in
    let none : b *ℤ i -ℤ a *ℤ j ≡ pos 0 = sym d ∙ e in
    let none_x : (b *ℤ i -ℤ a *ℤ j) *ℤ j ≡ pos 0 = ap (λ z. z *ℤ j) none ∙ omega (arith, ints) in
    let none_y : (b *ℤ i -ℤ a *ℤ j) *ℤ i ≡ pos 0 = ap (λ z. z *ℤ i) none ∙ omega (arith, ints) in
    let same_x : m *ℤ a ≡ n *ℤ i = omega (arith, sums, parallel_x a b i j) in
    let same_y : m *ℤ b ≡ n *ℤ j = omega (arith, sums, parallel_y a b i j) in
    let k : pos 0 ≤ℤ m = omega (arith, sums, square i, square j) in
    let ex : m *ℤ p.x +ℤ n *ℤ c.x ≡ m *ℤ c.x +ℤ n *ℤ s.x = omega (arith, sums, times-gap m c.x p.x, times-gap n c.x s.x) in
    let ey : m *ℤ p.y +ℤ n *ℤ c.y ≡ m *ℤ c.y +ℤ n *ℤ s.y = omega (arith, sums, times-gap m c.y p.y, times-gap n c.y s.y) in (
      m *ℤ p.x +ℤ n *ℤ c.x,
      m *ℤ p.y +ℤ n *ℤ c.y,
      m +ℤ n,
      record {
        shared = record {
          whole = omega (arith, sums);
          first = on_mix p c m n k (omega (arith, sums));
          second = rw (ex, ey) (on_mix c s m n k (omega (arith, sums)));
        };
        other = λ z.
            let zx : n *ℤ i ≡ pos 0 = let z0 = z.0 in omega (arith, sums, moved_mix m n p.x c.x) in
            let zy : n *ℤ j ≡ pos 0 = let z1 = z.1 in omega (arith, sums, moved_mix m n p.y c.y) in
            let f = spread a b i j n in
            let fx : a *ℤ (n *ℤ i) ≡ pos 0 = ap (λ t. a *ℤ t) zx ∙ *ℤ-zero a in
            let fy : b *ℤ (n *ℤ j) ≡ pos 0 = ap (λ t. b *ℤ t) zy ∙ *ℤ-zero b in
            let g = grows n n (omega (arith, sums)) h in
            omega (arith, sums);
      },
    )

-- ---- and the other way
far_up : (w p c x : ℤ) → pos 0 <ℤ w → IsBetween (w *ℤ p) (w *ℤ c) x → (w *ℤ c) <ℤ x → c <ℤ p
far_up w p c x h i l = by_lt_z c p (λ z. z) (λ z. let k = keeps w p c h z in absurd (omega (arith, sums)))

far_down : (w p c x : ℤ) → pos 0 <ℤ w → IsBetween (w *ℤ p) (w *ℤ c) x → x <ℤ (w *ℤ c) → p <ℤ c
far_down w p c x h i l = by_lt_z p c (λ z. z) (λ z. let k = keeps w c p h z in absurd (omega (arith, sums)))

-- in one coordinate both ends lie on the side of the point
part : (w p c s x : ℤ) → pos 0 <ℤ w → IsBetween (w *ℤ p) (w *ℤ c) x → IsBetween (w *ℤ c) (w *ℤ s) x → ¬ (x -ℤ w *ℤ c ≡ pos 0) → pos 0 <ℤ ((p -ℤ c) *ℤ (s -ℤ c))
part w p c s x h i j n =
    let j' = other_way (w *ℤ c) (w *ℤ s) x j in
    by_lt_z (w *ℤ c) x
    (λ l. let u = far_up w p c x h i l in let v = far_up w s c x h j' l in
    let g = grows (p -ℤ c) (s -ℤ c) (omega (arith, sums)) (omega (arith, sums)) in omega (arith, sums))
    (λ l0. by_lt_z x (w *ℤ c)
    (λ l. let u = far_down w p c x h i l in let v = far_down w s c x h j' l in
    let g = grows (c -ℤ p) (c -ℤ s) (omega (arith, sums)) (omega (arith, sums)) in
    let e = both_turned p c s in omega (arith, sums))
    (λ l. let z : x -ℤ w *ℤ c ≡ pos 0 = omega (arith, sums) in absurd (n z)))

no_sum : (i a u v : ℤ) → u ≡ pos 0 → v ≡ pos 0 → i *ℤ u +ℤ a *ℤ v ≡ pos 0
no_sum i a u v e d =
    let f : i *ℤ u ≡ pos 0 = ap (λ z. i *ℤ z) e ∙ *ℤ-zero i in
    let g : a *ℤ v ≡ pos 0 = ap (λ z. a *ℤ z) d ∙ *ℤ-zero a in
    omega (arith, sums)

first_line : (p c s : Point) (x y w : ℤ) → IsMore p c s x y w → (p.y -ℤ c.y) *ℤ (x -ℤ w *ℤ c.x) -ℤ (p.x -ℤ c.x) *ℤ (y -ℤ w *ℤ c.y) ≡ pos 0
first_line p c s x y w h = let l = h.shared.first.line in omega (arith, sums, line_at p.x p.y c.x c.y x y w)

second_line : (p c s : Point) (x y w : ℤ) → IsMore p c s x y w → (s.x -ℤ c.x) *ℤ (y -ℤ w *ℤ c.y) -ℤ (s.y -ℤ c.y) *ℤ (x -ℤ w *ℤ c.x) ≡ pos 0
second_line p c s x y w h = let l = h.shared.second.line in omega (arith, sums)

not_both : (p c s : Point) (x y w : ℤ) → IsMore p c s x y w → x -ℤ w *ℤ c.x ≡ pos 0 → ¬ (y -ℤ w *ℤ c.y ≡ pos 0)
not_both p c s x y w h e d = h.other (omega (arith, sums), omega (arith, sums))

crosses_none : (a b i j m n : ℤ) → b *ℤ m -ℤ a *ℤ n ≡ pos 0 → i *ℤ n -ℤ j *ℤ m ≡ pos 0 → ((m ≡ pos 0) → ¬ (n ≡ pos 0)) → b *ℤ i -ℤ a *ℤ j ≡ pos 0
crosses_none a b i j m n e d other = by (ℤ_discrete m (pos 0))
  where
    by : Dec (m ≡ pos 0) → b *ℤ i -ℤ a *ℤ j ≡ pos 0
    by (no f) = zero_product (b *ℤ i -ℤ a *ℤ j) m (cross_x a b i j m n ∙ no_sum i a (b *ℤ m -ℤ a *ℤ n) (i *ℤ n -ℤ j *ℤ m) e d) f
    by (yes f) = zero_product (b *ℤ i -ℤ a *ℤ j) n (cross_y a b i j m n ∙ no_sum j b (b *ℤ m -ℤ a *ℤ n) (i *ℤ n -ℤ j *ℤ m) e d) (other f)

pub turn_from : (p c s : Point) → ShareMore p c s → turn p c s ≡ pos 0
turn_from p c s h =
    at_corner p.x p.y c.x c.y s.x s.y
    ∙ crosses_none (p.x -ℤ c.x) (p.y -ℤ c.y) (s.x -ℤ c.x) (s.y -ℤ c.y) (h.0 -ℤ h.2 *ℤ c.x) (h.1 -ℤ h.2 *ℤ c.y)
    (first_line p c s h.0 h.1 h.2 h.3) (second_line p c s h.0 h.1 h.2 h.3) (not_both p c s h.0 h.1 h.2 h.3)

no_part : (a b m n : ℤ) → b *ℤ m -ℤ a *ℤ n ≡ pos 0 → m ≡ pos 0 → ¬ (n ≡ pos 0) → (i : ℤ) → a *ℤ i ≡ pos 0
no_part a b m n e d f i =
    let z : b *ℤ m ≡ pos 0 = ap (λ t. b *ℤ t) d ∙ *ℤ-zero b in
    let y : a *ℤ n ≡ pos 0 = omega (arith, sums) in
    ap (λ t. t *ℤ i) (zero_product a n y f) ∙ zero-*ℤ i

pub along_from : (p c s : Point) → ShareMore p c s → pos 0 <ℤ along p c s
along_from p c s h = by (ℤ_discrete (h.0 -ℤ h.2 *ℤ c.x) (pos 0)) (ℤ_discrete (h.1 -ℤ h.2 *ℤ c.y) (pos 0))
  where
    by : Dec (h.0 -ℤ h.2 *ℤ c.x ≡ pos 0) → Dec (h.1 -ℤ h.2 *ℤ c.y ≡ pos 0) → pos 0 <ℤ along p c s
    by (yes e) (yes d) = absurd (not_both p c s h.0 h.1 h.2 h.3 e d)
    by (yes e) (no f) =
        let y = part h.2 p.y c.y s.y h.1 h.3.shared.whole h.3.shared.first.in_y h.3.shared.second.in_y f in
        let x = no_part (p.x -ℤ c.x) (p.y -ℤ c.y) (h.0 -ℤ h.2 *ℤ c.x) (h.1 -ℤ h.2 *ℤ c.y) (first_line p c s h.0 h.1 h.2 h.3) e f (s.x -ℤ c.x) in
        omega (arith, sums)
    by (no f) (yes e) =
        let x = part h.2 p.x c.x s.x h.0 h.3.shared.whole h.3.shared.first.in_x h.3.shared.second.in_x f in
        let l = first_line p c s h.0 h.1 h.2 h.3 in
        let y = no_part (p.y -ℤ c.y) (p.x -ℤ c.x) (h.1 -ℤ h.2 *ℤ c.y) (h.0 -ℤ h.2 *ℤ c.x) (omega (arith, sums)) e f (s.y -ℤ c.y) in
        omega (arith, sums)
    by (no f) (no g) =
        let x = part h.2 p.x c.x s.x h.0 h.3.shared.whole h.3.shared.first.in_x h.3.shared.second.in_x f in
        let y = part h.2 p.y c.y s.y h.1 h.3.shared.whole h.3.shared.first.in_y h.3.shared.second.in_y g in
        omega (arith, sums)
