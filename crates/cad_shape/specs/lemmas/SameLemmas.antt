-- Points and boxes with the same coordinates are one value, since each fact that is kept of them has only one proof.
use Rattle.std.proofs.Common.{◌≡◌, ℤ, FitsSigned, w64, ap₂, subst, arith}
use Rattle.std.proofs.lemmas.Int.{ints}
use lib.Dec.{T_prop}
use Rattle.cad_shape.specs.declared.point.Point.{Point}
use Rattle.cad_shape.specs.declared.boxes.Bounds.{Bounds}
use Rattle.cad_shape.specs.Coordinates.{IsCoordinate}
use Rattle.cad_shape.specs.Boxes.{IsExtent}

pub coordinate_fits : (n : ℤ) → IsCoordinate n → FitsSigned w64 n
coordinate_fits n h = omega (arith, ints)

coordinate_prop : (n : ℤ) → IsProp (IsCoordinate n)
coordinate_prop n = hlevel T_prop

pub same_point : (p q : Point) → p.x ≡ q.x → p.y ≡ q.y → p ≡ q
same_point p q e f =
    subst (λ (n : ℤ). (h : IsCoordinate n) (k : IsCoordinate q.y) → p ≡ record { x = n; y = q.y; x_in_range = h; y_in_range = k }) e
    (λ h k. subst (λ (n : ℤ). (k : IsCoordinate n) → p ≡ record { x = p.x; y = n; x_in_range = h; y_in_range = k }) f
    (λ k. ap₂ (λ (h : IsCoordinate p.x) (k : IsCoordinate p.y). record { x = p.x; y = p.y; x_in_range = h; y_in_range = k }) (coordinate_prop p.x p.x_in_range h) (coordinate_prop p.y p.y_in_range k)) k) q.x_in_range q.y_in_range

extent_prop : (a b : ℤ) → IsProp (IsExtent a b)
extent_prop a b = hlevel T_prop

pub same_bounds : (a b : Bounds) → a.x_min ≡ b.x_min → a.y_min ≡ b.y_min → a.x_max ≡ b.x_max → a.y_max ≡ b.y_max → a ≡ b
same_bounds a b e f g h =
    subst (λ (s : ℤ × ℤ × ℤ × ℤ). (w : IsExtent s.0 s.2) (v : IsExtent s.1 s.3) → a ≡ record { x_min = s.0; y_min = s.1; x_max = s.2; y_max = s.3; width = w; height = v })
    (ap₂ (λ (p q : ℤ × ℤ). (p.0, p.1, q.0, q.1)) (ap₂ (λ (x y : ℤ). (x, y)) e f) (ap₂ (λ (x y : ℤ). (x, y)) g h))
    (λ w v. ap₂ (λ (w : IsExtent a.x_min a.x_max) (v : IsExtent a.y_min a.y_max). record { x_min = a.x_min; y_min = a.y_min; x_max = a.x_max; y_max = a.y_max; width = w; height = v }) (extent_prop a.x_min a.x_max a.width w) (extent_prop a.y_min a.y_max a.height v))
    b.width b.height
