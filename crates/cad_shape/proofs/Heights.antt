-- Which edges cross the height of a point right of it.
use Rattle.std.proofs.Common.{IsTrue, Bool, true, false, ◌&&◌, if◌then◌else◌, ◌≡◌, ℤ, pos, ◌+ℤ◌, ◌-ℤ◌, ◌*ℤ◌, neg_ℤ, ◌≤ℤ◌, ◌<ℤ◌, inl, inr, ⊎_elim, int_le, int_lt, refl, sym, ap, ◌∙◌, subst, arith}
use Rattle.std.proofs.lemmas.Bool.{false≢true}
use Rattle.std.proofs.lemmas.Int.{ints, by_lt_z}
use Rattle.cad_shape.specs.Segments.{IsOn, turn}
use Rattle.cad_shape.specs.Regions.{CrossesRight, rises, passes}
use Rattle.cad_shape.specs.declared.point.Point.{Point}
use Rattle.cad_shape.proofs.Equations.{as_gap, gaps, gap_same}
use Rattle.cad_shape.proofs.Signs.{sums, grows, times, times_neg_right}
use Rattle.cad_shape.proofs.SharedPoints.{on_mix, on_turned}

-- ---- what `passes` is, by the heights of the two ends
rises_yes : (t p q : Point) → p.y ≤ℤ t.y → t.y <ℤ q.y → rises t p q ≡ true
rises_yes t p q h k =
    let e : true ≡ int_le p.y t.y = omega (arith, ints) in
    let d : true ≡ int_lt t.y q.y = omega (arith, ints) in
    sym (λ i. e i && d i)

below_no : (t p q : Point) → t.y <ℤ p.y → rises t p q ≡ false
below_no t p q h = let e : false ≡ int_le p.y t.y = omega (arith, ints) in sym (ap (λ b. b && int_lt t.y q.y) e)

and_false : (b : Bool) → (b && false) ≡ false
and_false true = refl
and_false false = refl

above_no : (t p q : Point) → q.y ≤ℤ t.y → rises t p q ≡ false
above_no t p q h = let e : false ≡ int_lt t.y q.y = omega (arith, ints) in sym (ap (λ b. int_le p.y t.y && b) e) ∙ and_false (int_le p.y t.y)

pub passes_up : (t p q : Point) → p.y ≤ℤ t.y → t.y <ℤ q.y → passes t p q ≡ int_lt (pos 0) (turn p q t)
passes_up t p q h k = ap (λ b. if b then int_lt (pos 0) (turn p q t) else (if rises t q p then int_lt (pos 0) (turn q p t) else false)) (rises_yes t p q h k)

pub passes_down : (t p q : Point) → q.y ≤ℤ t.y → t.y <ℤ p.y → passes t p q ≡ int_lt (pos 0) (turn q p t)
passes_down t p q h k =
    ap (λ b. if b then int_lt (pos 0) (turn p q t) else (if rises t q p then int_lt (pos 0) (turn q p t) else false)) (below_no t p q k)
    ∙ ap (λ b. if b then int_lt (pos 0) (turn q p t) else false) (rises_yes t q p h k)

pub passes_over : (t p q : Point) → t.y <ℤ p.y → t.y <ℤ q.y → passes t p q ≡ false
passes_over t p q h k =
    ap (λ b. if b then int_lt (pos 0) (turn p q t) else (if rises t q p then int_lt (pos 0) (turn q p t) else false)) (below_no t p q h)
    ∙ ap (λ b. if b then int_lt (pos 0) (turn q p t) else false) (below_no t q p k)

pub passes_under : (t p q : Point) → p.y ≤ℤ t.y → q.y ≤ℤ t.y → passes t p q ≡ false
passes_under t p q h k =
    ap (λ b. if b then int_lt (pos 0) (turn p q t) else (if rises t q p then int_lt (pos 0) (turn q p t) else false)) (above_no t p q k)
    ∙ ap (λ b. if b then int_lt (pos 0) (turn q p t) else false) (above_no t q p h)

-- ---- `passes` is the crossing
level : (p q t : ℤ) → (q -ℤ t) *ℤ p +ℤ (t -ℤ p) *ℤ q ≡ ((q -ℤ t) +ℤ (t -ℤ p)) *ℤ t
level p q t = rw (as_gap p, as_gap q, as_gap t) (simp gaps (gap_same _ _ _ _ (omega arith)))

over : (px py qx qy tx ty : ℤ) → (qy -ℤ ty) *ℤ px +ℤ (ty -ℤ py) *ℤ qx ≡ ((qy -ℤ ty) +ℤ (ty -ℤ py)) *ℤ tx +ℤ ((qx -ℤ px) *ℤ (ty -ℤ py) -ℤ (qy -ℤ py) *ℤ (tx -ℤ px))
over px py qx qy tx ty = rw (as_gap px, as_gap py, as_gap qx, as_gap qy, as_gap tx, as_gap ty) (simp gaps (gap_same _ _ _ _ (omega arith)))

rises_right : (t p q : Point) → p.y ≤ℤ t.y → t.y <ℤ q.y → pos 0 <ℤ turn p q t → CrossesRight t p q
rises_right t p q h k l =
    let m = q.y -ℤ t.y in
    let n = t.y -ℤ p.y in
    let e = over p.x p.y q.x q.y t.x t.y in (
      m *ℤ p.x +ℤ n *ℤ q.x,
      m +ℤ n,
      record {
        whole = omega (arith, sums);
        spans = inl (h, k);
        on = subst (λ (z : ℤ). IsOn p q (m *ℤ p.x +ℤ n *ℤ q.x) z (m +ℤ n)) (level p.y q.y t.y) (on_mix p q m n (omega (arith, sums)) (omega (arith, sums)));
        right = omega (arith, sums);
      },
    )

turned : (t p q : Point) → CrossesRight t p q → CrossesRight t q p
turned t p q h = (
  h.0,
  h.1,
  record {
    whole = h.2.whole;
    spans = ⊎_elim (λ k. inr k) (λ k. inl k) h.2.spans;
    on = on_turned p q h.0 (h.1 *ℤ t.y) h.1 h.2.on;
    right = h.2.right;
  },
)

weighed : (px py qx qy tx ty x w : ℤ) → w *ℤ ((qx -ℤ px) *ℤ (ty -ℤ py) -ℤ (qy -ℤ py) *ℤ (tx -ℤ px)) ≡ (qy -ℤ py) *ℤ (x -ℤ w *ℤ tx) +ℤ ((qx -ℤ px) *ℤ (w *ℤ ty -ℤ w *ℤ py) -ℤ (qy -ℤ py) *ℤ (x -ℤ w *ℤ px))
weighed px py qx qy tx ty x w = rw (as_gap px, as_gap py, as_gap qx, as_gap qy, as_gap tx, as_gap ty, as_gap x, as_gap w) (simp gaps (gap_same _ _ _ _ (omega arith)))

right_turn : (t p q : Point) (x w : ℤ) → p.y ≤ℤ t.y → t.y <ℤ q.y → pos 0 <ℤ w → IsOn p q x (w *ℤ t.y) w → (w *ℤ t.x) <ℤ x → pos 0 <ℤ turn p q t
right_turn t p q x w h k l on r = by_lt_z (pos 0) (turn p q t) (λ z. z) (λ z.
    let e = weighed p.x p.y q.x q.y t.x t.y x w in
    let line = on.line in
    let g = grows (q.y -ℤ p.y) (x -ℤ w *ℤ t.x) (omega (arith, sums)) (omega (arith, sums)) in
    let d = times w (neg_ℤ (turn p q t)) (omega (arith, sums)) (omega (arith, sums)) in
    let f = times_neg_right w (turn p q t) in
    absurd (omega (arith, sums)))

pub above_zero : (z : ℤ) → int_lt (pos 0) z ≡ true → pos 0 <ℤ z
above_zero z e = omega (arith, ints)

pub zero_below : (z : ℤ) → pos 0 <ℤ z → int_lt (pos 0) z ≡ true
zero_below z h = let e : true ≡ int_lt (pos 0) z = omega (arith, ints) in sym e

pub passes_right : (t p q : Point) → IsTrue (passes t p q) → CrossesRight t p q
passes_right t p q e = by_lt_z t.y p.y
    (λ h. by_lt_z t.y q.y
    (λ k. absurd (false≢true (sym (passes_over t p q h k) ∙ e)))
    (λ k. turned t q p (rises_right t q p k h (above_zero _ (sym (passes_down t p q k h) ∙ e)))))
    (λ h. by_lt_z t.y q.y
    (λ k. rises_right t p q h k (above_zero _ (sym (passes_up t p q h k) ∙ e)))
    (λ k. absurd (false≢true (sym (passes_under t p q h k) ∙ e))))

pub right_passes : (t p q : Point) → CrossesRight t p q → IsTrue (passes t p q)
right_passes t p q h = ⊎_elim
    (λ k. passes_up t p q k.0 k.1 ∙ zero_below _ (right_turn t p q h.0 h.1 k.0 k.1 h.2.whole h.2.on h.2.right))
    (λ k. passes_down t p q k.0 k.1 ∙ zero_below _ (right_turn t q p h.0 h.1 k.0 k.1 h.2.whole (on_turned p q h.0 (h.1 *ℤ t.y) h.1 h.2.on) h.2.right))
    h.2.spans
