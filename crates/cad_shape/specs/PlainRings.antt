-- A test that computes, for rings that are written out in code: if it says yes, the corners are a ring. It is stricter than necessary,
-- since it refuses corners on a straight line.
use Rattle.std.specs.Prelude.{ℕ, ◌+◌, ℤ, pos, ◌+ℤ◌, ◌-ℤ◌, ◌*ℤ◌, int_lt, nat_le, Bool, true, ◌&&◌, ◌||◌, List, [], ◌∷◌, ◌++◌, length}
use Rattle.cad_shape.specs.declared.point.Point.{Point}
use Rattle.cad_shape.specs.declared.crossing.Pair.{Pair}
use Rattle.cad_shape.specs.declared.crossing.Pair.TheVariants.{Same, Next, Round, Far}
use Rattle.cad_shape.specs.Crossings.{pair_of}

-- x and y of a point
abbrev pub coordinates : Point → ℤ × ℤ
coordinates p = (p.x, p.y)

-- the ends of the edges from a through the places in order
abbrev pub lines : ℤ × ℤ → List (ℤ × ℤ) → List ((ℤ × ℤ) × (ℤ × ℤ))
lines a [] = []
lines a (b ∷ bs) = (a, b) ∷ lines b bs

abbrev pub ring_lines : List (ℤ × ℤ) → List ((ℤ × ℤ) × (ℤ × ℤ))
ring_lines [] = []
ring_lines (a ∷ bs) = lines a (bs ++ a ∷ [])

abbrev pub lines_area : List ((ℤ × ℤ) × (ℤ × ℤ)) → ℤ
lines_area [] = pos 0
lines_area (l ∷ ls) = (l.0.0 *ℤ l.1.1 -ℤ l.1.0 *ℤ l.0.1) +ℤ lines_area ls

-- above 0 where c lies left of the line from a to b, below 0 on its right, 0 on the line
abbrev pub side : ℤ × ℤ → ℤ × ℤ → ℤ × ℤ → ℤ
side a b c = (b.0 -ℤ a.0) *ℤ (c.1 -ℤ a.1) -ℤ (b.1 -ℤ a.1) *ℤ (c.0 -ℤ a.0)

abbrev pub differ : ℤ → ℤ → Bool
differ f g = int_lt f g || int_lt g f

-- both numbers lie above 0, or both below it
abbrev pub agree : ℤ → ℤ → Bool
agree f g = (int_lt (pos 0) f && int_lt (pos 0) g) || (int_lt f (pos 0) && int_lt g (pos 0))

-- the edge from a to b and the one from c to d share no more than they may
abbrev pub is_clear : Pair → ℤ × ℤ → ℤ × ℤ → ℤ × ℤ → ℤ × ℤ → Bool
is_clear Same a b c d = differ a.0 b.0 || differ a.1 b.1
is_clear Next a b c d = differ (side a b d) (pos 0)
is_clear Round a b c d = differ (side c d b) (pos 0)
is_clear Far a b c d = agree (side a b c) (side a b d) || agree (side c d a) (side c d b)

-- edge i is clear of these, the first of which is edge j, in a ring of n
abbrev pub is_clear_of : ℕ → ℕ → (ℤ × ℤ) × (ℤ × ℤ) → ℕ → List ((ℤ × ℤ) × (ℤ × ℤ)) → Bool
is_clear_of n i l j [] = true
is_clear_of n i l j (m ∷ ms) = is_clear (pair_of n i j) l.0 l.1 m.0 m.1 && is_clear_of n i l (j + 1) ms

-- these edges, the first of which is edge i, are clear of one another
abbrev pub are_clear : ℕ → ℕ → List ((ℤ × ℤ) × (ℤ × ℤ)) → Bool
are_clear n i [] = true
are_clear n i (l ∷ ls) = is_clear_of n i l i (l ∷ ls) && are_clear n (i + 1) ls

-- the places are the corners of a ring without straight corners
abbrev pub is_plain_ring : List (ℤ × ℤ) → Bool
is_plain_ring places =
    nat_le 3 (length places) && nat_le (length places) 1000 && differ (lines_area (ring_lines places)) (pos 0) && are_clear (length places) 0 (ring_lines places)
