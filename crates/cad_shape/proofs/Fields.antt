-- The coordinates of a point, as calls pass them.
use Rattle.std.proofs.Common.{◌≡◌, ◌↔◌, IsTrue, true, int_le, ℤ, pos, ◌-ℤ◌, ◌≤ℤ◌, FitsSigned, to_z, of_z, w64, [], ◌∷◌, inl, inr, refl, sym, ap₂, subst, arith}
use mir.Syntax.{w128}
use Rattle.std.proofs.lemmas.Int.{ints, to_z-of_z}
use Rattle.cad_shape.specs.declared.point.Point.{Point}
use Rattle.cad_shape.specs.Coordinates.{IsCoordinate, IsProduct}
use Rattle.cad_shape.specs.Boxes.{IsLower, IsUpper}
use Rattle.cad_shape.specs.Frames.{frame_corners}
use Rattle.cad_shape.specs.lemmas.SameLemmas.{coordinate_fits, same_point}
use Rattle.cad_shape.specs.Segments.{IsOutOf}
use Rattle.cad_shape.specs.declared.boxes.Bounds.{Bounds}

pub back_x : (p : Point) → to_z w64 (of_z w64 p.x) ≡ p.x
back_x p = to_z-of_z w64 p.x (coordinate_fits p.x p.x_in_range)

pub back_y : (p : Point) → to_z w64 (of_z w64 p.y) ≡ p.y
back_y p = to_z-of_z w64 p.y (coordinate_fits p.y p.y_in_range)

difference : (a b : ℤ) → IsCoordinate a → IsCoordinate b → to_z w64 (of_z w64 (to_z w64 (of_z w64 a) -ℤ to_z w64 (of_z w64 b))) ≡ a -ℤ b
difference a b h k = omega (arith, ints)

pub difference_x : (p q : Point) → to_z w64 (of_z w64 (to_z w64 (of_z w64 q.x) -ℤ to_z w64 (of_z w64 p.x))) ≡ q.x -ℤ p.x
difference_x p q = difference q.x p.x q.x_in_range p.x_in_range

pub difference_y : (p q : Point) → to_z w64 (of_z w64 (to_z w64 (of_z w64 q.y) -ℤ to_z w64 (of_z w64 p.y))) ≡ q.y -ℤ p.y
difference_y p q = difference q.y p.y q.y_in_range p.y_in_range

-- bits that are 0
pub none : (z : ℤ) → FitsSigned w128 z → of_z w128 z ≡ 0 → z ≡ pos 0
none z h e = omega (arith, ints)

-- ---- the difference of two products
pub difference_fits : (a b : ℤ) → IsProduct a → IsProduct b → FitsSigned w128 (to_z w128 (of_z w128 a) -ℤ to_z w128 (of_z w128 b))
difference_fits a b h k = omega (arith, ints)

pub is_difference : (a b : ℤ) → IsProduct a → IsProduct b → to_z w128 (of_z w128 (to_z w128 (of_z w128 a) -ℤ to_z w128 (of_z w128 b))) ≡ a -ℤ b
is_difference a b h k = omega (arith, ints)

-- ---- points and boxes

pub back : (n : ℤ) → IsCoordinate n → to_z w64 (of_z w64 n) ≡ n
back n h = to_z-of_z w64 n (coordinate_fits n h)

le_yes : (a b : ℤ) → a ≤ℤ b → int_le a b ≡ true
le_yes a b h = let e : true ≡ int_le a b = omega (arith, ints) in sym e

yes_le : (a b : ℤ) → int_le a b ≡ true → a ≤ℤ b
yes_le a b h = omega (arith, ints)

-- two tests of order in a row, the first of which holds
pub both_hold : (a b c d : ℤ) → IsCoordinate a → IsCoordinate b → IsCoordinate c → IsCoordinate d → IsTrue (int_le (to_z w64 (of_z w64 a)) (to_z w64 (of_z w64 b))) → IsTrue (int_le (to_z w64 (of_z w64 c)) (to_z w64 (of_z w64 d))) ↔ ((a ≤ℤ b) × (c ≤ℤ d))
both_hold a b c d i j k l h =
    let first : a ≤ℤ b = yes_le a b (rw (back a i, back b j) at h) in
    rw (back c k, back d l) ((λ t. (first, yes_le c d t), λ t. le_yes c d t.1))

-- four points that are the corners of a box
pub frame_is : (b : Bounds) (p q r s : Point) → p.x ≡ b.x_min → p.y ≡ b.y_min → q.x ≡ b.x_max → q.y ≡ b.y_min → r.x ≡ b.x_max → r.y ≡ b.y_max → s.x ≡ b.x_min → s.y ≡ b.y_max → p ∷ q ∷ r ∷ s ∷ [] ≡ frame_corners b
frame_is b p q r s a c d e f g h k =
    ap₂ ◌∷◌ (same_point p _ a c) (ap₂ ◌∷◌ (same_point q _ d e) (ap₂ ◌∷◌ (same_point r _ f g) (ap₂ ◌∷◌ (same_point s _ h k) refl)))

-- ---- the lesser and the greater of two coordinates
pub lower_in : (a b m : ℤ) → IsCoordinate a → IsCoordinate b → IsLower a b m → IsCoordinate m
lower_in a b m h k (i, j, inl e) = subst IsCoordinate (sym e) h
lower_in a b m h k (i, j, inr e) = subst IsCoordinate (sym e) k

pub upper_in : (a b m : ℤ) → IsCoordinate a → IsCoordinate b → IsUpper a b m → IsCoordinate m
upper_in a b m h k (i, j, inl e) = subst IsCoordinate (sym e) h
upper_in a b m h k (i, j, inr e) = subst IsCoordinate (sym e) k

pub lower_back : (a b m : ℤ) → IsCoordinate a → IsCoordinate b → IsLower (to_z w64 (of_z w64 a)) (to_z w64 (of_z w64 b)) m → IsLower a b (to_z w64 (of_z w64 m))
lower_back a b m i j h =
    let l : IsLower a b m = rw (back a i, back b j) at h in
    subst (IsLower a b) (sym (back m (lower_in a b m i j l))) l

pub upper_back : (a b m : ℤ) → IsCoordinate a → IsCoordinate b → IsUpper (to_z w64 (of_z w64 a)) (to_z w64 (of_z w64 b)) m → IsUpper a b (to_z w64 (of_z w64 m))
upper_back a b m i j h =
    let l : IsUpper a b m = rw (back a i, back b j) at h in
    subst (IsUpper a b) (sym (back m (upper_in a b m i j l))) l

pub out_back : (low high a b : ℤ) → IsCoordinate low → IsCoordinate high → IsCoordinate a → IsCoordinate b → IsOutOf (to_z w64 (of_z w64 low)) (to_z w64 (of_z w64 high)) (to_z w64 (of_z w64 a)) (to_z w64 (of_z w64 b)) → IsOutOf low high a b
out_back low high a b h i j k o = rw (back low h, back high i, back a j, back b k) at o
