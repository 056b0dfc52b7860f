-- A point in a region lies in each box that holds the corners.
use Rattle.std.proofs.Common.{Bool, true, false, if◌then◌else◌, ◌≡◌, ℕ, ◌+◌, ◌%◌, ℤ, pos, ◌+ℤ◌, ◌-ℤ◌, ◌*ℤ◌, neg_ℤ, ◌≤ℤ◌, ◌<ℤ◌, inl, inr, ⊎_elim, List, [], ◌∷◌, int_lt, refl, sym, ap, ◌∙◌, subst, arith}
use Rattle.std.proofs.lemmas.Int.{ints, by_lt_z}
use Rattle.std.proofs.lemmas.List.Elements.{recursion_from_All}
use Rattle.std.specs.List.{All, AllByRecursion}
use Rattle.cad_shape.specs.Segments.{IsBetween, turn}
use Rattle.cad_shape.specs.Edges.{walk, edges_of, end_of}
use Rattle.cad_shape.specs.Frames.{IsHeld}
use Rattle.cad_shape.specs.Regions.{IsOnEdge, IsOnSome, passes, crossings, IsInRegion}
use Rattle.cad_shape.specs.declared.point.Point.{Point}
use Rattle.cad_shape.specs.declared.boxes.Bounds.{Bounds}
use Rattle.cad_shape.proofs.Equations.{as_gap, gaps, gap_same}
use Rattle.cad_shape.proofs.Signs.{sums, grows, times}
use Rattle.cad_shape.proofs.Walks.{edge_x, edge_y, opened, region_pushed}
use Rattle.cad_shape.proofs.Heights.{passes_up, passes_down, passes_over, passes_under, zero_below}

-- ---- on an edge
edge_held : (b : Bounds) (t p q : Point) → IsHeld b p → IsHeld b q → IsOnEdge t p q → IsHeld b t
edge_held b t p q h k e = within (edge_x t p q e) (edge_y t p q e)
  where
    within : IsBetween p.x q.x t.x → IsBetween p.y q.y t.y → IsHeld b t
    within (inl x) (inl y) = ((omega (arith, sums), omega (arith, sums)), (omega (arith, sums), omega (arith, sums)))
    within (inl x) (inr y) = ((omega (arith, sums), omega (arith, sums)), (omega (arith, sums), omega (arith, sums)))
    within (inr x) (inl y) = ((omega (arith, sums), omega (arith, sums)), (omega (arith, sums), omega (arith, sums)))
    within (inr x) (inr y) = ((omega (arith, sums), omega (arith, sums)), (omega (arith, sums), omega (arith, sums)))

walk_held : (b : Bounds) (t p : Point) (qs : List Point) → IsHeld b p → AllByRecursion (IsHeld b) qs → IsOnSome t (walk p qs) → IsHeld b t
walk_held b t p [] h k e = absurd e
walk_held b t p (q ∷ qs) h k (inl e) = edge_held b t p q h k.0 e
walk_held b t p (q ∷ qs) h k (inr e) = walk_held b t q qs k.0 k.1 e

pub end_held : (b : Bounds) (p : Point) (qs : List Point) → IsHeld b p → AllByRecursion (IsHeld b) qs → IsHeld b (end_of p qs)
end_held b p [] h k = h
end_held b p (q ∷ qs) h k = end_held b q qs k.0 k.1

-- ---- where no edge crosses
none_cross : (t : Point) (Q : Point → Type 0) → ((p q : Point) → Q p → Q q → passes t p q ≡ false) → (p : Point) (qs : List Point) → Q p → AllByRecursion Q qs → crossings t (walk p qs) ≡ 0
none_cross t Q f p [] h k = refl
none_cross t Q f p (q ∷ qs) h k =
    let e = none_cross t Q f q qs k.0 k.1 in
    let d = ap {B = ℕ} (λ b. if b then 1 else 0) (f p q h k.0) in
    omega (arith, e, d)

-- the side of a point, by the distances of the two ends
sided : (px py qx qy tx ty : ℤ) → (qx -ℤ px) *ℤ (ty -ℤ py) -ℤ (qy -ℤ py) *ℤ (tx -ℤ px) ≡ (ty -ℤ py) *ℤ (qx -ℤ tx) +ℤ (qy -ℤ ty) *ℤ (px -ℤ tx)
sided px py qx qy tx ty = rw (as_gap px, as_gap py, as_gap qx, as_gap qy, as_gap tx, as_gap ty) (simp gaps (gap_same _ _ _ _ (omega arith)))

minus_times : (a b c : ℤ) → a *ℤ (b -ℤ c) ≡ neg_ℤ (a *ℤ (c -ℤ b))
minus_times a b c = rw (as_gap a, as_gap b, as_gap c) (simp gaps (gap_same _ _ _ _ (omega arith)))

not_below : (z : ℤ) → z ≤ℤ pos 0 → int_lt (pos 0) z ≡ false
not_below z h = let e : false ≡ int_lt (pos 0) z = omega (arith, ints) in sym e

-- a rising edge whose ends lie left of the point
left_turn : (t p q : Point) → p.y ≤ℤ t.y → t.y <ℤ q.y → p.x <ℤ t.x → q.x <ℤ t.x → turn p q t ≤ℤ pos 0
left_turn t p q h k l m =
    let e = sided p.x p.y q.x q.y t.x t.y in
    let a = times (t.y -ℤ p.y) (t.x -ℤ q.x) (omega (arith, sums)) (omega (arith, sums)) in
    let b = times (q.y -ℤ t.y) (t.x -ℤ p.x) (omega (arith, sums)) (omega (arith, sums)) in
    omega (arith, sums, minus_times (t.y -ℤ p.y) q.x t.x, minus_times (q.y -ℤ t.y) p.x t.x)

-- and right of it
right_turn : (t p q : Point) → p.y ≤ℤ t.y → t.y <ℤ q.y → t.x <ℤ p.x → t.x <ℤ q.x → pos 0 <ℤ turn p q t
right_turn t p q h k l m =
    let e = sided p.x p.y q.x q.y t.x t.y in
    let a = times (t.y -ℤ p.y) (q.x -ℤ t.x) (omega (arith, sums)) (omega (arith, sums)) in
    let b = grows (q.y -ℤ t.y) (p.x -ℤ t.x) (omega (arith, sums)) (omega (arith, sums)) in
    omega (arith, sums)

left_none : (t p q : Point) → p.x <ℤ t.x → q.x <ℤ t.x → passes t p q ≡ false
left_none t p q h k = by_lt_z t.y p.y
    (λ l. by_lt_z t.y q.y (λ m. passes_over t p q l m) (λ m. passes_down t p q m l ∙ not_below _ (left_turn t q p m l k h)))
    (λ l. by_lt_z t.y q.y (λ m. passes_up t p q l m ∙ not_below _ (left_turn t p q l m h k)) (λ m. passes_under t p q l m))

-- ---- where all edges that span the height cross: their number is even
-- 1 where p lies above the height of t
above : Point → Point → ℕ
above t p = if int_lt t.y p.y then 1 else 0

above_one : (t p : Point) → t.y <ℤ p.y → above t p ≡ 1
unfolding above
above_one t p h = let e : true ≡ int_lt t.y p.y = omega (arith, ints) in sym (ap {B = ℕ} (λ b. if b then 1 else 0) e)

above_none : (t p : Point) → p.y ≤ℤ t.y → above t p ≡ 0
unfolding above
above_none t p h = let e : false ≡ int_lt t.y p.y = omega (arith, ints) in sym (ap {B = ℕ} (λ b. if b then 1 else 0) e)

even : (b c : Bool) (x y : ℕ) → b ≡ c → ((if c then 1 else 0) + x + y) % 2 ≡ 0 → ((if b then 1 else 0) + x + y) % 2 ≡ 0
even b c x y e h = subst (λ (z : Bool). ((if z then 1 else 0) + x + y) % 2 ≡ 0) (sym e) h

step_even : (t p q : Point) → t.x <ℤ p.x → t.x <ℤ q.x → ((if passes t p q then 1 else 0) + above t p + above t q) % 2 ≡ 0
step_even t p q h k = by_lt_z t.y p.y
    (λ l. by_lt_z t.y q.y
    (λ m. even (passes t p q) false _ _ (passes_over t p q l m) (omega (arith, above_one t p l, above_one t q m)))
    (λ m. even (passes t p q) true _ _ (passes_down t p q m l ∙ zero_below _ (right_turn t q p m l k h)) (omega (arith, above_one t p l, above_none t q m))))
    (λ l. by_lt_z t.y q.y
    (λ m. even (passes t p q) true _ _ (passes_up t p q l m ∙ zero_below _ (right_turn t p q l m h k)) (omega (arith, above_none t p l, above_one t q m)))
    (λ m. even (passes t p q) false _ _ (passes_under t p q l m) (omega (arith, above_none t p l, above_none t q m))))

walk_even : (t p : Point) (qs : List Point) → t.x <ℤ p.x → AllByRecursion (λ (q : Point). t.x <ℤ q.x) qs → (crossings t (walk p qs) + above t p + above t (end_of p qs)) % 2 ≡ 0
walk_even t p [] h k = omega arith
walk_even t p (q ∷ qs) h k =
    let e = walk_even t q qs k.0 k.1 in
    let d = step_even t p q h k.0 in
    omega (arith, e, d)

right_of : (b : Bounds) (t : Point) → t.x <ℤ b.x_min → (qs : List Point) → AllByRecursion (IsHeld b) qs → AllByRecursion (λ (q : Point). t.x <ℤ q.x) qs
right_of b t h [] k = k
right_of b t h (q ∷ qs) k = (let l = k.0 in omega (arith, sums), right_of b t h qs k.1)

odd_held : (b : Bounds) (t p : Point) (qs : List Point) → IsHeld b p → AllByRecursion (IsHeld b) qs → end_of p qs ≡ p → crossings t (walk p qs) % 2 ≡ 1 → IsHeld b t
odd_held b t p qs h k e o =
    let none : crossings t (walk p qs) ≡ 0 → ⊥ = λ z. absurd (omega arith) in
    by_lt_z t.x b.x_min
    (λ l. let ev = walk_even t p qs (omega (arith, sums)) (right_of b t l qs k) in let same = ap (above t) e in absurd (omega (arith, ev, same)))
    (λ l0. by_lt_z b.x_max t.x (λ l. absurd (none (none_cross t (IsHeld b) (λ p q i j. left_none t p q (omega (arith, sums)) (omega (arith, sums))) p qs h k)))
    (λ l1. by_lt_z t.y b.y_min (λ l. absurd (none (none_cross t (IsHeld b) (λ p q i j. passes_over t p q (omega (arith, sums)) (omega (arith, sums))) p qs h k)))
    (λ l2. by_lt_z b.y_max t.y (λ l. absurd (none (none_cross t (IsHeld b) (λ p q i j. passes_under t p q (omega (arith, sums)) (omega (arith, sums))) p qs h k)))
    (λ l3. ((l0, l1), (l2, l3))))))

-- a point in a region lies in each box that holds the corners
pub in_bounds : (b : Bounds) (t : Point) (cs : List Point) → All (IsHeld b) cs → IsInRegion t (edges_of cs) → IsHeld b t
in_bounds b t [] h (inl e) = absurd e
in_bounds b t [] h (inr e) = absurd (omega arith)
in_bounds b t (p ∷ qs) h e =
    let k = recursion_from_All (IsHeld b) (p ∷ qs) h in
    let last = end_held b p qs k.0 k.1 in
    ⊎_elim (λ w. walk_held b t (end_of p qs) (p ∷ qs) last k w) (λ o. odd_held b t (end_of p qs) (p ∷ qs) last k refl o) (opened (IsInRegion t) (λ es d. (region_pushed t es d).1) p qs e)
