-- Two segments share a point exactly where their boxes overlap and each straddles the line of the other.
use Rattle.std.proofs.Common.{◌≡◌, ℤ, pos, ◌+ℤ◌, ◌-ℤ◌, ◌*ℤ◌, neg_ℤ, ◌≤ℤ◌, ◌<ℤ◌, ◌⊎◌, inl, inr, ⊎_elim, sym, ap, ◌∙◌, arith}
use Rattle.std.proofs.lemmas.Int.{ints, by_lt_z}
use Rattle.cad_shape.specs.Segments.{IsBetween, IsOn, IsShared, Meet, turn, Straddle, AllBelow, Apart}
use Rattle.cad_shape.specs.declared.point.Point.{Point}
use Rattle.cad_shape.proofs.Equations.{gap, gap_is, as_gap, gaps, gap_same}
use Rattle.cad_shape.proofs.Signs.{sums, grows, times, times-neg, times-gap, cancels, times_below, mix_between, no_weight, times_neg_right}
use Rattle.cad_shape.proofs.Turns.{turn_moved, turn_shared, weights, shared_x, shared_y, shared_w}
use lib.IntN.{*ℤ_comm, *ℤ-zero, ℤ_discrete}
use borrow.Author.Differences.{Apart-out}

-- ---- changes of the names of the points
pub other_way : (a b n : ℤ) → IsBetween a b n → IsBetween b a n
other_way a b n (inl h) = inr h
other_way a b n (inr h) = inl h

line_turned : (px py qx qy w x y : ℤ) → (qx -ℤ px) *ℤ (y -ℤ w *ℤ py) -ℤ (qy -ℤ py) *ℤ (x -ℤ w *ℤ px) ≡ neg_ℤ ((px -ℤ qx) *ℤ (y -ℤ w *ℤ qy) -ℤ (py -ℤ qy) *ℤ (x -ℤ w *ℤ qx))
line_turned px py qx qy w x y = rw (as_gap px, as_gap py, as_gap qx, as_gap qy, as_gap w, as_gap x, as_gap y) (simp gaps (gap_same _ _ _ _ (omega arith)))

pub on_turned : (p q : Point) (x y w : ℤ) → IsOn p q x y w → IsOn q p x y w
on_turned p q x y w h = record {
  line = let e = line_turned p.x p.y q.x q.y w x y in let d = h.line in omega (arith, sums);
  in_x = other_way _ _ _ h.in_x;
  in_y = other_way _ _ _ h.in_y;
}

turn_turned : (px py qx qy rx ry : ℤ) → (qx -ℤ px) *ℤ (ry -ℤ py) -ℤ (qy -ℤ py) *ℤ (rx -ℤ px) ≡ neg_ℤ ((px -ℤ qx) *ℤ (ry -ℤ qy) -ℤ (py -ℤ qy) *ℤ (rx -ℤ qx))
turn_turned px py qx qy rx ry = rw (as_gap px, as_gap py, as_gap qx, as_gap qy, as_gap rx, as_gap ry) (simp gaps (gap_same _ _ _ _ (omega arith)))

pub meet_turned : (p q r s : Point) → Meet p q r s → Meet q p r s
meet_turned p q r s m = (m.0, m.1, m.2, record { whole = m.3.whole; first = on_turned p q m.0 m.1 m.2 m.3.first; second = m.3.second })

pub meet_exchanged : (p q r s : Point) → Meet p q r s → Meet r s p q
meet_exchanged p q r s m = (m.0, m.1, m.2, record { whole = m.3.whole; first = m.3.second; second = m.3.first })

-- ---- a shared point shows that the test holds
-- the boxes
pub not_below : (p q r s x w : ℤ) → pos 0 <ℤ w → IsBetween (w *ℤ p) (w *ℤ q) x → IsBetween (w *ℤ r) (w *ℤ s) x → ¬ (AllBelow p q r s)
not_below p q r s x w h i j b =
    let b0 = times_below w p r h b.0 in
    let b1 = times_below w p s h b.1 in
    let b2 = times_below w q r h b.2 in
    let b3 = times_below w q s h b.3 in
    omega (arith, sums)

weights_sign : (w r s x : ℤ) → IsBetween (w *ℤ r) (w *ℤ s) x
    → ((pos 0 ≤ℤ (w *ℤ (s -ℤ r) -ℤ (x -ℤ w *ℤ r))) × (pos 0 ≤ℤ (x -ℤ w *ℤ r))) ⊎ (((w *ℤ (s -ℤ r) -ℤ (x -ℤ w *ℤ r)) ≤ℤ pos 0) × ((x -ℤ w *ℤ r) ≤ℤ pos 0))
weights_sign w r s x (inl h) = let e = times-gap w r s in inl (omega (arith, sums))
weights_sign w r s x (inr h) = let e = times-gap w r s in inr (omega (arith, sums))

-- in one coordinate: where both ends lie left of a line that the point is on, the point is the first end
first_end : (w r s j n a b f g x : ℤ) → IsBetween (w *ℤ r) (w *ℤ s) x
    → (s -ℤ r) *ℤ n ≡ j *ℤ (x -ℤ w *ℤ r) → w *ℤ f +ℤ (a *ℤ n -ℤ b *ℤ (x -ℤ w *ℤ r)) ≡ pos 0 → g ≡ f +ℤ (a *ℤ j -ℤ b *ℤ (s -ℤ r))
    → pos 0 <ℤ f → pos 0 <ℤ g → x -ℤ w *ℤ r ≡ pos 0
first_end w r s j n a b f g x h e d is k l =
    let i = s -ℤ r in
    let m = x -ℤ w *ℤ r in
    let z : i *ℤ n -ℤ j *ℤ m ≡ pos 0 = omega (arith, sums) in
    let c = *ℤ-zero i in
    let c' = *ℤ-zero a in
    let none : i *ℤ pos 0 -ℤ a *ℤ pos 0 ≡ pos 0 = omega (arith, sums) in
    no_weight (w *ℤ i -ℤ m) m f g (weights_sign w r s x h) k l
    (ap (λ t. (w *ℤ i -ℤ m) *ℤ f +ℤ m *ℤ t) is ∙ weights w i j m n a b f ∙ ap (λ t. i *ℤ t -ℤ a *ℤ (i *ℤ n -ℤ j *ℤ m)) d ∙ ap (λ t. i *ℤ pos 0 -ℤ a *ℤ t) z ∙ none)

-- both ends of the second segment lie left of the first one's line
pub not_left : (p q r s : Point) (x y w : ℤ) → IsShared p q r s x y w → pos 0 <ℤ turn p q r → ¬ (pos 0 <ℤ turn p q s)
not_left p q r s x y w h k l =
    let a = q.x -ℤ p.x in
    let b = q.y -ℤ p.y in
    let i = s.x -ℤ r.x in
    let j = s.y -ℤ r.y in
    let m = x -ℤ w *ℤ r.x in
    let n = y -ℤ w *ℤ r.y in
    let f = turn p q r in
    let g = turn p q s in
    let line = h.first.line in
    let at = turn_shared a b w x y p.x p.y r.x r.y in
    let d : w *ℤ f +ℤ (a *ℤ n -ℤ b *ℤ m) ≡ pos 0 = omega (arith, sums) in
    let is : g ≡ f +ℤ (a *ℤ j -ℤ b *ℤ i) = turn_moved a b p.x p.y s.x s.y r.x r.y in
    let ex : m ≡ pos 0 = first_end w r.x s.x j n a b f g x h.second.in_x h.second.line d is k l in
    let d' : w *ℤ f +ℤ (neg_ℤ b *ℤ m -ℤ neg_ℤ a *ℤ n) ≡ pos 0 = omega (arith, sums, times-neg b m, times-neg a n) in
    let is' : g ≡ f +ℤ (neg_ℤ b *ℤ i -ℤ neg_ℤ a *ℤ j) = omega (arith, sums, times-neg b i, times-neg a j) in
    let ey : n ≡ pos 0 = first_end w r.y s.y i m (neg_ℤ b) (neg_ℤ a) f g y h.second.in_y (sym h.second.line) d' is' k l in
    let none_x : b *ℤ m ≡ pos 0 = ap (λ t. b *ℤ t) ex ∙ *ℤ-zero b in
    let none_y : a *ℤ n ≡ pos 0 = ap (λ t. a *ℤ t) ey ∙ *ℤ-zero a in
    let whole = h.whole in
    let big = grows w f (omega (arith, sums)) k in
    omega (arith, sums)

pub shows_straddle : (p q r s : Point) → Meet p q r s → Straddle (turn p q r) (turn p q s)
shows_straddle p q r s m =
    let h = m.3 in
    let turned = on_turned p q m.0 m.1 m.2 h.first in
    let e = turn_turned p.x p.y q.x q.y r.x r.y in
    let d = turn_turned p.x p.y q.x q.y s.x s.y in
    by_lt_z (pos 0) (turn p q r)
    (λ k. by_lt_z (pos 0) (turn p q s) (λ l. absurd (not_left p q r s m.0 m.1 m.2 h k l)) (λ l. inr (omega (arith, sums))))
    (λ k. by_lt_z (turn p q s) (pos 0)
    (λ l. by_lt_z (turn p q r) (pos 0)
    (λ n. absurd (not_left q p r s m.0 m.1 m.2 (record { whole = h.whole; first = turned; second = h.second }) (omega (arith, sums)) (omega (arith, sums))))
    (λ n. inr (omega (arith, sums))))
    (λ l. inl (omega (arith, sums))))

-- ---- the test shows that there is a shared point
-- a point by its weights at the two ends
mix_line : (px py qx qy m n : ℤ) → (qx -ℤ px) *ℤ ((m *ℤ py +ℤ n *ℤ qy) -ℤ (m +ℤ n) *ℤ py) ≡ (qy -ℤ py) *ℤ ((m *ℤ px +ℤ n *ℤ qx) -ℤ (m +ℤ n) *ℤ px)
mix_line px py qx qy m n = rw (as_gap px, as_gap py, as_gap qx, as_gap qy, as_gap m, as_gap n) (simp gaps (gap_same _ _ _ _ (omega arith)))

pub on_mix : (p q : Point) (m n : ℤ) → pos 0 ≤ℤ m → pos 0 ≤ℤ n → IsOn p q (m *ℤ p.x +ℤ n *ℤ q.x) (m *ℤ p.y +ℤ n *ℤ q.y) (m +ℤ n)
on_mix p q m n h k = record {
  line = mix_line p.x p.y q.x q.y m n;
  in_x = mix_between m n p.x q.x h k;
  in_y = mix_between m n p.y q.y h k;
}

pub crosses : (p q r s : Point) → turn p q r ≤ℤ pos 0 → pos 0 ≤ℤ turn p q s → turn p q r <ℤ turn p q s → Straddle (turn r s p) (turn r s q) → Meet p q r s
crosses p q r s h k l d =
    let f = turn p q r in
    let m = turn p q s in
    let n = neg_ℤ f in
    let g = turn r s q in
    let m' = neg_ℤ g in
    let n' = turn r s p in
    let e = shared_x p.x p.y q.x q.y r.x r.y s.x s.y in
    let e' = shared_y p.x p.y q.x q.y r.x r.y s.x s.y in
    let e'' : m -ℤ f ≡ n' -ℤ g = shared_w p.x p.y q.x q.y r.x r.y s.x s.y in
    let ex : m *ℤ r.x +ℤ n *ℤ s.x ≡ m' *ℤ p.x +ℤ n' *ℤ q.x = omega (arith, sums, times-neg f s.x, times-neg g p.x) in
    let ey : m *ℤ r.y +ℤ n *ℤ s.y ≡ m' *ℤ p.y +ℤ n' *ℤ q.y = omega (arith, sums, times-neg f s.y, times-neg g p.y) in
    let ew : m +ℤ n ≡ m' +ℤ n' = omega (arith, sums) in (
      m *ℤ r.x +ℤ n *ℤ s.x,
      m *ℤ r.y +ℤ n *ℤ s.y,
      m +ℤ n,
      record {
        whole = omega (arith, sums);
        first = rw (ex, ey, ew) (on_mix p q m' n' (omega (arith, sums)) (omega (arith, sums)));
        second = on_mix r s m n (omega (arith, sums)) (omega (arith, sums));
      },
    )

-- ---- where all four ends lie on one line
pub one_times : (a : ℤ) → pos 1 *ℤ a ≡ a
one_times a = omega (arith, ints)

pub on_one : (p q r : Point) → turn p q r ≡ pos 0 → IsBetween p.x q.x r.x → IsBetween p.y q.y r.y → IsOn p q r.x r.y (pos 1)
on_one p q r e h k = record {
  line = simp one_times (omega (arith, sums));
  in_x = simp one_times h;
  in_y = simp one_times k;
}

slope : (k l m n : ℤ) → pos 0 <ℤ k → pos 0 ≤ℤ l → pos 0 ≤ℤ m → m ≤ℤ k → k *ℤ n ≡ l *ℤ m → (pos 0 ≤ℤ n) × (n ≤ℤ l)
slope k l m n h i j o e =
    let a = times l m i j in
    let low = cancels k n h (omega (arith, sums)) in
    let b = times l (k -ℤ m) i (omega (arith, sums)) in
    let c = times-gap l m k in
    let d = times-gap k n l in
    let f = *ℤ_comm k l in
    let high = cancels k (l -ℤ n) h (omega (arith, sums)) in
    (low, omega (arith, sums))

inside : (a b c : Point) → a.x <ℤ b.x → a.x ≤ℤ c.x → c.x ≤ℤ b.x → turn a b c ≡ pos 0 → IsBetween a.y b.y c.y
inside a b c h i j e =
    let k = b.x -ℤ a.x in
    let l = b.y -ℤ a.y in
    let m = c.x -ℤ a.x in
    let n = c.y -ℤ a.y in
    by_lt_z b.y a.y
    (λ o. let t = slope k (neg_ℤ l) m (neg_ℤ n) (omega (arith, sums)) (omega (arith, sums)) (omega (arith, sums)) (omega (arith, sums)) (omega (arith, sums, times_neg_right k n, times-neg l m)) in inr (omega (arith, sums)))
    (λ o. let t = slope k l m n (omega (arith, sums)) (omega (arith, sums)) (omega (arith, sums)) (omega (arith, sums)) (omega (arith, sums)) in inl (omega (arith, sums)))

between_first : (a b : ℤ) → IsBetween a b a
between_first a b = by_lt_z a b (λ l. inl (omega (arith, sums))) (λ l. inr (omega (arith, sums)))

turn_first : (px py qx qy : ℤ) → (qx -ℤ px) *ℤ (py -ℤ py) -ℤ (qy -ℤ py) *ℤ (px -ℤ px) ≡ gap 0 0
turn_first px py qx qy = rw (as_gap px, as_gap py, as_gap qx, as_gap qy) (simp gaps (gap_same _ _ _ _ (omega arith)))

at_first : (p q : Point) → IsOn p q p.x p.y (pos 1)
at_first p q = on_one p q p (turn_first p.x p.y q.x q.y ∙ omega (arith, sums, gap_is 0 0)) (between_first p.x q.x) (between_first p.y q.y)

pub at_second : (p q : Point) → IsOn p q q.x q.y (pos 1)
at_second p q = on_turned q p q.x q.y (pos 1) (at_first q p)

pub one_is : pos 0 <ℤ pos 1
one_is = omega (arith, ints)

touch_x : (p q r s : Point) → p.x <ℤ q.x → turn p q r ≡ pos 0 → turn p q s ≡ pos 0 → turn r s p ≡ pos 0
    → ¬ (AllBelow p.x q.x r.x s.x) → ¬ (AllBelow r.x s.x p.x q.x) → Meet p q r s
touch_x p q r s h er es ep below above = by_lt_z r.x p.x
    (λ k. by_lt_z s.x p.x (λ l. absurd (above (omega (arith, sums))))
    (λ l. by_lt_z q.x s.x
    (λ n. (p.x, p.y, pos 1, record { whole = one_is; first = at_first p q; second = on_one r s p ep (inl (omega (arith, sums))) (inside r s p (omega (arith, sums)) (omega (arith, sums)) (omega (arith, sums)) ep) }))
    (λ n. (s.x, s.y, pos 1, record { whole = one_is; first = on_one p q s es (inl (omega (arith, sums))) (inside p q s h l n es); second = at_second r s }))))
    (λ k. by_lt_z q.x r.x
    (λ l. by_lt_z q.x s.x (λ n. absurd (below (omega (arith, sums))))
    (λ n. by_lt_z s.x p.x
    (λ o. (
      p.x,
      p.y,
      pos 1,
      record {
        whole = one_is;
        first = at_first p q;
        second = on_one r s p ep (inr (omega (arith, sums))) (other_way s.y r.y p.y (inside s r p (omega (arith, sums)) (omega (arith, sums)) (omega (arith, sums)) (omega (arith, sums, turn_turned r.x r.y s.x s.y p.x p.y))));
      },
    ))
    (λ o. (s.x, s.y, pos 1, record { whole = one_is; first = on_one p q s es (inl (omega (arith, sums))) (inside p q s h o n es); second = at_second r s }))))
    (λ l. (r.x, r.y, pos 1, record { whole = one_is; first = on_one p q r er (inl (omega (arith, sums))) (inside p q r h k l er); second = at_first r s })))

-- x and y exchanged
mirror : Point → Point
mirror p = record { x = p.y; y = p.x; x_in_range = p.y_in_range; y_in_range = p.x_in_range }

unmirrored : (p q r s : Point) → Meet (mirror p) (mirror q) (mirror r) (mirror s) → Meet p q r s
unfolding mirror
unmirrored p q r s m =
    let h = m.3 in (
      m.1,
      m.0,
      m.2,
      record {
        whole = h.whole;
        first = record { line = sym h.first.line; in_x = h.first.in_y; in_y = h.first.in_x };
        second = record { line = sym h.second.line; in_x = h.second.in_y; in_y = h.second.in_x };
      },
    )

-- the first segment has length along x, in either direction
touch_long : (p q r s : Point) → ¬ (p.x ≡ q.x) → turn p q r ≡ pos 0 → turn p q s ≡ pos 0 → turn r s p ≡ pos 0 → turn r s q ≡ pos 0
    → ¬ (Apart p.x q.x r.x s.x) → Meet p q r s
touch_long p q r s n er es ep eq apart = by_lt_z p.x q.x
    (λ l. touch_x p q r s l er es ep (λ b. apart (inl b)) (λ b. apart (inr b)))
    (λ l. meet_turned q p r s (touch_x q p r s (omega (arith, sums, Apart-out))
    (omega (arith, sums, turn_turned p.x p.y q.x q.y r.x r.y)) (omega (arith, sums, turn_turned p.x p.y q.x q.y s.x s.y)) eq
    (λ b. apart (inl (b.2, b.3, b.0, b.1))) (λ b. apart (inr (b.1, b.0, b.3, b.2)))))

-- a number that lies neither above both nor below both
overlapped : (p q r s : ℤ) → p ≡ q → ¬ (Apart p q r s) → IsBetween r s p
overlapped p q r s e n = by_lt_z p r
    (λ l. by_lt_z p s (λ k. absurd (n (inl (l, k, omega (arith, sums), omega (arith, sums))))) (λ k. inr (omega (arith, sums))))
    (λ l. by_lt_z s p
    (λ k. by_lt_z r p (λ j. absurd (n (inr (j, omega (arith, sums), k, omega (arith, sums))))) (λ j. inr (omega (arith, sums))))
    (λ k. inl (omega (arith, sums))))

mirrored_turn : (px py qx qy rx ry : ℤ) → (qy -ℤ py) *ℤ (rx -ℤ px) -ℤ (qx -ℤ px) *ℤ (ry -ℤ py) ≡ neg_ℤ ((qx -ℤ px) *ℤ (ry -ℤ py) -ℤ (qy -ℤ py) *ℤ (rx -ℤ px))
mirrored_turn px py qx qy rx ry = rw (as_gap px, as_gap py, as_gap qx, as_gap qy, as_gap rx, as_gap ry) (simp gaps (gap_same _ _ _ _ (omega arith)))

mirrored_none : (p q r : Point) → turn p q r ≡ pos 0 → turn (mirror p) (mirror q) (mirror r) ≡ pos 0
unfolding mirror
mirrored_none p q r e = omega (arith, sums, mirrored_turn p.x p.y q.x q.y r.x r.y)

touch_high : (p q r s : Point) → ¬ (p.y ≡ q.y) → turn p q r ≡ pos 0 → turn p q s ≡ pos 0 → turn r s p ≡ pos 0 → turn r s q ≡ pos 0
    → ¬ (Apart p.y q.y r.y s.y) → Meet p q r s
unfolding mirror
touch_high p q r s n er es ep eq apart =
    unmirrored p q r s (touch_long (mirror p) (mirror q) (mirror r) (mirror s) n (mirrored_none p q r er) (mirrored_none p q s es) (mirrored_none r s p ep) (mirrored_none r s q eq) apart)

touch : (p q r s : Point) → turn p q r ≡ pos 0 → turn p q s ≡ pos 0 → turn r s p ≡ pos 0 → turn r s q ≡ pos 0
    → ¬ (Apart p.x q.x r.x s.x) → ¬ (Apart p.y q.y r.y s.y) → Meet p q r s
touch p q r s er es ep eq ax ay = by (ℤ_discrete p.x q.x) (ℤ_discrete p.y q.y)
  where
    by : Dec (p.x ≡ q.x) → Dec (p.y ≡ q.y) → Meet p q r s
    by (no n) d = touch_long p q r s n er es ep eq ax
    by (yes e) (no n) = touch_high p q r s n er es ep eq ay
    by (yes e) (yes d) = (p.x, p.y, pos 1, record { whole = one_is; first = at_first p q; second = on_one r s p ep (overlapped p.x q.x r.x s.x e ax) (overlapped p.y q.y r.y s.y d ay) })

pub reaches : (p q r s : Point) → ¬ (Apart p.x q.x r.x s.x) → ¬ (Apart p.y q.y r.y s.y) → Straddle (turn p q r) (turn p q s) → Straddle (turn r s p) (turn r s q) → Meet p q r s
reaches p q r s ax ay h k =
    let e : turn p q s -ℤ turn p q r ≡ turn r s p -ℤ turn r s q = shared_w p.x p.y q.x q.y r.x r.y s.x s.y in
    let tp = turn_turned r.x r.y s.x s.y p.x p.y in
    let tq = turn_turned r.x r.y s.x s.y q.x q.y in
    by_lt_z (turn p q r) (turn p q s)
    (λ l. crosses p q r s (omega (arith, sums)) (omega (arith, sums)) l k)
    (λ l. by_lt_z (turn p q s) (turn p q r)
    (λ j. meet_exchanged r s p q (meet_turned s r p q (meet_exchanged p q s r
    (crosses p q s r (omega (arith, sums)) (omega (arith, sums)) j (inr (omega (arith, sums)))))))
    (λ j. touch p q r s (omega (arith, sums)) (omega (arith, sums)) (omega (arith, sums)) (omega (arith, sums)) ax ay))

pub apart_never : (p q r s : Point) → Apart p.x q.x r.x s.x ⊎ Apart p.y q.y r.y s.y → ¬ (Meet p q r s)
apart_never p q r s a m =
    let h = m.3 in
    ⊎_elim
    (⊎_elim
    (λ b. not_below p.x q.x r.x s.x m.0 m.2 h.whole h.first.in_x h.second.in_x b)
    (λ b. not_below r.x s.x p.x q.x m.0 m.2 h.whole h.second.in_x h.first.in_x b))
    (⊎_elim
    (λ b. not_below p.y q.y r.y s.y m.1 m.2 h.whole h.first.in_y h.second.in_y b)
    (λ b. not_below r.y s.y p.y q.y m.1 m.2 h.whole h.second.in_y h.first.in_y b))
    a

pub meets_only : (p q r s : Point) → Meet p q r s → Straddle (turn p q r) (turn p q s) × Straddle (turn r s p) (turn r s q)
meets_only p q r s m = (shows_straddle p q r s m, shows_straddle r s p q (meet_exchanged p q r s m))
