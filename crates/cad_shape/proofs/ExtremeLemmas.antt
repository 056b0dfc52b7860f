-- Farthest points.
use Rattle.std.proofs.Common.{◌≡◌, ℕ, ◌+◌, ◌<◌, ℤ, ◌≤ℤ◌, ◌<ℤ◌, List, length, get_or, take, sym, subst, arith}
use Rattle.std.specs.List.{All}
use Rattle.std.proofs.lemmas.Int.{by_lt_z}
use Rattle.std.proofs.lemmas.List.Elements.{All-more, All-weaker}
use Rattle.cad_shape.specs.declared.point.Point.{Point}
use Rattle.cad_shape.specs.declared.boxes.Bounds.{Bounds}
use Rattle.cad_shape.specs.declared.extremes.Way.{Way}
use Rattle.cad_shape.specs.declared.extremes.Way.TheVariants.{West, South, East, North}
use Rattle.cad_shape.specs.declared.extremes.Extremes.{Extremes}
use Rattle.cad_shape.specs.Crossings.{origin}
use Rattle.cad_shape.specs.inner.Extremes.{IsFarther, point_at, AreExtremes}
use Rattle.cad_shape.specs.Frames.{IsHeld, IsLeastBounds}
use Rattle.cad_shape.proofs.Signs.{sums}

-- what is not farther than one point is not farther than one that is farther than that
not_farther : (way : Way) (p q r : Point) → ¬ (IsFarther way p q) → IsFarther way r q → ¬ (IsFarther way p r)
not_farther West p q r n k h = n (omega (arith, sums))
not_farther South p q r n k h = n (omega (arith, sums))
not_farther East p q r n k h = n (omega (arith, sums))
not_farther North p q r n k h = n (omega (arith, sums))

not_itself : (way : Way) (p : Point) → ¬ (IsFarther way p p)
not_itself West p h = absurd (omega (arith, sums))
not_itself South p h = absurd (omega (arith, sums))
not_itself East p h = absurd (omega (arith, sums))
not_itself North p h = absurd (omega (arith, sums))

-- ---- one point more
pub farther_here : (way : Way) (points : List Point) (i place : ℕ) → i < length points → IsFarther way (point_at points i) (point_at points place)
    → All (λ p. ¬ (IsFarther way p (point_at points place))) (take i points) → All (λ p. ¬ (IsFarther way p (point_at points i))) (take (i + 1) points)
farther_here way points i place h f a =
    let P : Point → Type 0 = λ p. ¬ (IsFarther way p (point_at points i)) in
    let Q : Point → Type 0 = λ p. ¬ (IsFarther way p (point_at points place)) in
    All-more P points i origin h (All-weaker Q P (λ p n. not_farther way p (point_at points place) (point_at points i) n f) (take i points) a) (not_itself way (point_at points i))

pub none_farther : (way : Way) (points : List Point) (i place : ℕ) → i < length points → ¬ (IsFarther way (point_at points i) (point_at points place))
    → All (λ p. ¬ (IsFarther way p (point_at points place))) (take i points) → All (λ p. ¬ (IsFarther way p (point_at points place))) (take (i + 1) points)
none_farther way points i place h n a =
    let P : Point → Type 0 = λ p. ¬ (IsFarther way p (point_at points place)) in
    All-more P points i origin h a n

-- ---- the box
at_least : (a b : ℤ) → ¬ (a <ℤ b) → b ≤ℤ a
at_least a b n = by_lt_z a b (λ h. absurd (n h)) (λ k. k)

pub least_from : (points : List Point) (e : Extremes) → AreExtremes points e → (b : Bounds)
    → b.x_min ≡ (point_at points e.west).x → b.y_min ≡ (point_at points e.south).y → b.x_max ≡ (point_at points e.east).x → b.y_max ≡ (point_at points e.north).y
    → IsLeastBounds b points
least_from points e a b f g h k = record {
  holds = λ i d l.
      let p = get_or points i d in
      let w = at_least p.x (point_at points e.west).x (a.west.1 i d l) in
      let s = at_least p.y (point_at points e.south).y (a.south.1 i d l) in
      let r = at_least (point_at points e.east).x p.x (a.east.1 i d l) in
      let n = at_least (point_at points e.north).y p.y (a.north.1 i d l) in
      ((subst (λ (z : ℤ). z ≤ℤ p.x) (sym f) w, subst (λ (z : ℤ). p.x ≤ℤ z) (sym h) r), (subst (λ (z : ℤ). z ≤ℤ p.y) (sym g) s, subst (λ (z : ℤ). p.y ≤ℤ z) (sym k) n));
  least = λ other held.
      let w : IsHeld other (point_at points e.west) = held e.west origin a.west.0 in
      let s : IsHeld other (point_at points e.south) = held e.south origin a.south.0 in
      let r : IsHeld other (point_at points e.east) = held e.east origin a.east.0 in
      let n : IsHeld other (point_at points e.north) = held e.north origin a.north.0 in
      ((subst (λ (z : ℤ). other.x_min ≤ℤ z) (sym f) w.0.0, subst (λ (z : ℤ). z ≤ℤ other.x_max) (sym h) r.0.1), (subst (λ (z : ℤ). other.y_min ≤ℤ z) (sym g) s.1.0, subst (λ (z : ℤ). z ≤ℤ other.y_max) (sym k) n.1.1));
}
