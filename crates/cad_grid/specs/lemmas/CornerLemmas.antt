-- The least box around corners has their least and their greatest coordinates.
use Rattle.std.proofs.Common.{◌≡◌, List, [], ◌∷◌, map, refl, arith}
use Rattle.std.specs.Prelude.{ℤ, pos, neg_ℤ, ◌≤ℤ◌}
use Rattle.std.specs.Int.{int_min, int_max}
use Rattle.std.specs.List.{All}
use Rattle.std.proofs.lemmas.Int.{ints, clamps}
use Rattle.std.proofs.lemmas.List.Elements.{All-get_or, All-tail, All-cons}
use Rattle.cad_shape.specs.declared.point.Point.{Point}
use Rattle.cad_shape.specs.declared.boxes.Bounds.{Bounds}
use Rattle.cad_shape.specs.Boxes.{IsExtent}
use Rattle.cad_shape.specs.Coordinates.{IsCoordinate}
use Rattle.cad_shape.specs.Frames.{IsHeld, IsLeastBounds, Covers}
use Rattle.cad_grid.specs.Blocks.{block_of, block_around, least, greatest}

module _ (f : Point → ℤ) (in_range : (p : Point) → IsCoordinate (f p)) where
  first_least : (x : ℤ) (ps : List Point) → least x (map f ps) ≤ℤ x
  first_least x [] = omega (arith, ints)
  first_least x (p ∷ ps) = let h = first_least (int_min x (f p)) ps in omega (arith, ints, clamps)

  all_least : (x : ℤ) (ps : List Point) → All (λ q. least x (map f ps) ≤ℤ f q) ps
  all_least x [] = λ k d h. absurd (omega arith)
  all_least x (p ∷ ps) =
      let h = first_least (int_min x (f p)) ps in
      All-cons (λ q. least (int_min x (f p)) (map f ps) ≤ℤ f q) p ps (omega (arith, ints, clamps)) (all_least (int_min x (f p)) ps)

  under_least : (z x : ℤ) (ps : List Point) → z ≤ℤ x → All (λ q. z ≤ℤ f q) ps → z ≤ℤ least x (map f ps)
  under_least z x [] h all = h
  under_least z x (p ∷ ps) h all =
      let k : z ≤ℤ f p = All-get_or (λ q. z ≤ℤ f q) (p ∷ ps) 0 p (omega arith) all in
      under_least z (int_min x (f p)) ps (omega (arith, ints, clamps)) (All-tail (λ q. z ≤ℤ f q) p ps all)

  first_greatest : (x : ℤ) (ps : List Point) → x ≤ℤ greatest x (map f ps)
  first_greatest x [] = omega (arith, ints)
  first_greatest x (p ∷ ps) = let h = first_greatest (int_max x (f p)) ps in omega (arith, ints, clamps)

  all_greatest : (x : ℤ) (ps : List Point) → All (λ q. f q ≤ℤ greatest x (map f ps)) ps
  all_greatest x [] = λ k d h. absurd (omega arith)
  all_greatest x (p ∷ ps) =
      let h = first_greatest (int_max x (f p)) ps in
      All-cons (λ q. f q ≤ℤ greatest (int_max x (f p)) (map f ps)) p ps (omega (arith, ints, clamps)) (all_greatest (int_max x (f p)) ps)

  over_greatest : (z x : ℤ) (ps : List Point) → x ≤ℤ z → All (λ q. f q ≤ℤ z) ps → greatest x (map f ps) ≤ℤ z
  over_greatest z x [] h all = h
  over_greatest z x (p ∷ ps) h all =
      let k : f p ≤ℤ z = All-get_or (λ q. f q ≤ℤ z) (p ∷ ps) 0 p (omega arith) all in
      over_greatest z (int_max x (f p)) ps (omega (arith, ints, clamps)) (All-tail (λ q. f q ≤ℤ z) p ps all)

  extent : (p : Point) (ps : List Point) → IsExtent (least (f p) (map f ps)) (greatest (f p) (map f ps))
  extent p ps =
      let below = under_least (neg_ℤ (pos 100000000000)) (f p) ps (in_range p).0 (λ k d h. (in_range _).0) in
      let above = over_greatest (pos 100000000000) (f p) ps (in_range p).1 (λ k d h. (in_range _).1) in
      let l = first_least (f p) ps in
      let g = first_greatest (f p) ps in
      ((below, omega (arith, ints)), (omega (arith, ints), above), omega (arith, ints))

  holds_least : (p : Point) (ps : List Point) → All (λ q. least (f p) (map f ps) ≤ℤ f q) (p ∷ ps)
  holds_least p ps = All-cons (λ q. least (f p) (map f ps) ≤ℤ f q) p ps (first_least (f p) ps) (all_least (f p) ps)

  holds_greatest : (p : Point) (ps : List Point) → All (λ q. f q ≤ℤ greatest (f p) (map f ps)) (p ∷ ps)
  holds_greatest p ps = All-cons (λ q. f q ≤ℤ greatest (f p) (map f ps)) p ps (first_greatest (f p) ps) (all_greatest (f p) ps)

  least_is : (z : ℤ) (p : Point) (ps : List Point) → All (λ q. z ≤ℤ f q) (p ∷ ps) → least (f p) (map f ps) ≤ℤ z → least (f p) (map f ps) ≡ z
  least_is z p ps all h =
      let k = under_least z (f p) ps (All-get_or (λ q. z ≤ℤ f q) (p ∷ ps) 0 p (omega arith) all) (All-tail (λ q. z ≤ℤ f q) p ps all) in
      omega (arith, ints)

  greatest_is : (z : ℤ) (p : Point) (ps : List Point) → All (λ q. f q ≤ℤ z) (p ∷ ps) → z ≤ℤ greatest (f p) (map f ps) → greatest (f p) (map f ps) ≡ z
  greatest_is z p ps all h =
      let k = over_greatest z (f p) ps (All-get_or (λ q. f q ≤ℤ z) (p ∷ ps) 0 p (omega arith) all) (All-tail (λ q. f q ≤ℤ z) p ps all) in
      omega (arith, ints)

-- the box with these corners' least and greatest coordinates
box_around : Point → List Point → Bounds
box_around p ps = record {
  x_min = least p.x (map (λ q. q.x) ps);
  y_min = least p.y (map (λ q. q.y) ps);
  x_max = greatest p.x (map (λ q. q.x) ps);
  y_max = greatest p.y (map (λ q. q.y) ps);
  width = extent (λ q. q.x) (λ q. q.x_in_range) p ps;
  height = extent (λ q. q.y) (λ q. q.y_in_range) p ps;
}

box_holds : (p : Point) (ps : List Point) → All (IsHeld (box_around p ps)) (p ∷ ps)
unfolding box_around
box_holds p ps = λ k d h. (
  (holds_least (λ q. q.x) (λ q. q.x_in_range) p ps k d h, holds_greatest (λ q. q.x) (λ q. q.x_in_range) p ps k d h),
  (holds_least (λ q. q.y) (λ q. q.y_in_range) p ps k d h, holds_greatest (λ q. q.y) (λ q. q.y_in_range) p ps k d h),
)

box_at : (n : ℤ) → IsCoordinate n → Bounds
box_at n c = record { x_min = n; y_min = n; x_max = n; y_max = n; width = (c, c, omega (arith, ints)); height = (c, c, omega (arith, ints)) }

is_zero : IsCoordinate (pos 0)
is_zero = (omega (arith, ints), omega (arith, ints))

is_one : IsCoordinate (pos 1)
is_one = (omega (arith, ints), omega (arith, ints))

-- no box is the least around no corners
none_round : (b : Bounds) → ((other : Bounds) → Covers other b) → ⊥
unfolding box_at
none_round b covers =
    let up = b.width.2 in
    let x = (covers (box_at (pos 0) is_zero)).0.1 in
    let y = (covers (box_at (pos 1) is_one)).0.0 in
    omega (arith, ints)

pub same_block : (b : Bounds) (points : List Point) → IsLeastBounds b points → block_around points ≡ block_of b
unfolding box_around
same_block b [] l = absurd (none_round b (λ other. l.least other (λ k d h. absurd (omega arith))))
same_block b (p ∷ ps) l =
    let covers = l.least (box_around p ps) (box_holds p ps) in
    let left = least_is (λ q. q.x) (λ q. q.x_in_range) b.x_min p ps (λ k d h. (l.holds k d h).0.0) covers.0.0 in
    let right = greatest_is (λ q. q.x) (λ q. q.x_in_range) b.x_max p ps (λ k d h. (l.holds k d h).0.1) covers.0.1 in
    let low = least_is (λ q. q.y) (λ q. q.y_in_range) b.y_min p ps (λ k d h. (l.holds k d h).1.0) covers.1.0 in
    let high = greatest_is (λ q. q.y) (λ q. q.y_in_range) b.y_max p ps (λ k d h. (l.holds k d h).1.1) covers.1.1 in
    rw (left, right, low, high) refl
