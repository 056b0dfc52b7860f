-- Least boxes.
use Rattle.std.proofs.Common.{◌≡◌, ℤ, ◌≤ℤ◌, [], ◌∷◌, inl, inr, sym, subst, arith}
use Rattle.std.proofs.lemmas.List.Elements.{All-cons, All-nil, All-head}
use Rattle.cad_shape.specs.Coordinates.{IsCoordinate}
use Rattle.cad_shape.specs.Boxes.{IsExtent, IsLower, IsUpper}
use Rattle.cad_shape.specs.Frames.{IsHeld, Covers, IsLeastBounds, IsStretched}
use Rattle.cad_shape.specs.declared.point.Point.{Point}
use Rattle.cad_shape.specs.declared.boxes.Bounds.{Bounds}
use Rattle.cad_shape.proofs.Signs.{sums}
use Rattle.cad_shape.proofs.Fields.{lower_in, upper_in}

pub at_least : (b : Bounds) (p : Point) → b.x_min ≡ p.x → b.y_min ≡ p.y → b.x_max ≡ p.x → b.y_max ≡ p.y → IsLeastBounds b (p ∷ [])
at_least b p e f g h = record {
  holds = All-cons (IsHeld b) p [] ((omega (arith, sums), omega (arith, sums)), (omega (arith, sums), omega (arith, sums))) (All-nil (IsHeld b));
  least = λ other k.
      let l = All-head (IsHeld other) p [] k in
      ((omega (arith, sums), omega (arith, sums)), (omega (arith, sums), omega (arith, sums)));
}

pub stretched_in : (a b n p m : ℤ) → IsExtent a b → IsCoordinate n → IsLower a n p → IsUpper b n m → IsExtent p m
stretched_in a b n p m h k l u = (lower_in a n p h.0 k l, upper_in b n m h.1 k u, let e = h.2 in let f = l.0 in let g = u.0 in omega (arith, sums))

above_both : (o a b m : ℤ) → o ≤ℤ a → o ≤ℤ b → IsLower a b m → o ≤ℤ m
above_both o a b m h k (i, j, inl e) = subst (λ (z : ℤ). o ≤ℤ z) (sym e) h
above_both o a b m h k (i, j, inr e) = subst (λ (z : ℤ). o ≤ℤ z) (sym e) k

below_both : (o a b m : ℤ) → a ≤ℤ o → b ≤ℤ o → IsUpper a b m → m ≤ℤ o
below_both o a b m h k (i, j, inl e) = subst (λ (z : ℤ). z ≤ℤ o) (sym e) h
below_both o a b m h k (i, j, inr e) = subst (λ (z : ℤ). z ≤ℤ o) (sym e) k

pub is_stretched : (old : Bounds) (p : Point) (new : Bounds) → IsLower old.x_min p.x new.x_min → IsLower old.y_min p.y new.y_min → IsUpper old.x_max p.x new.x_max → IsUpper old.y_max p.y new.y_max → IsStretched old p new
is_stretched old p new a b c d = record {
  keeps = ((a.0, c.0), (b.0, d.0));
  holds = ((a.1, c.1), (b.1, d.1));
  least = λ other k h. (
    (above_both other.x_min old.x_min p.x new.x_min k.0.0 h.0.0 a, below_both other.x_max old.x_max p.x new.x_max k.0.1 h.0.1 c),
    (above_both other.y_min old.y_min p.y new.y_min k.1.0 h.1.0 b, below_both other.y_max old.y_max p.y new.y_max k.1.1 h.1.1 d),
  );
}

pub held_more : (old new : Bounds) (p : Point) → Covers new old → IsHeld old p → IsHeld new p
held_more old new p h k = ((omega (arith, sums), omega (arith, sums)), (omega (arith, sums), omega (arith, sums)))
