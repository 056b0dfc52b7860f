-- What the test for rings that are written out shows.
use Rattle.std.proofs.Common.{◌≡◌, ℕ, zero, suc, ◌+◌, ◌<◌, ◌≤◌, ◌⊎◌, Bool, true, false, ◌&&◌, ◌||◌, inl, inr, ⊎_elim, ℤ, pos, ◌+ℤ◌, ◌-ℤ◌, ◌*ℤ◌, ◌<ℤ◌, int_lt, nat_le, List, [], ◌∷◌, ◌++◌, length, map, refl, sym, ap, ◌∙◌, subst, arith}
use Rattle.std.proofs.lemmas.Bool.{and_parts, leb-true}
use Rattle.std.proofs.lemmas.Int.{ints}
use Rattle.cad_shape.specs.Segments.{Straddle, turn}
use Rattle.cad_shape.specs.Edges.{Edge, walk, edges_of}
use Rattle.cad_shape.specs.Areas.{doubled_area}
use Rattle.cad_shape.specs.Crossings.{edge_at, pair_of, Cross}
use Rattle.cad_shape.specs.Outlines.{IsRing}
use Rattle.cad_shape.specs.PlainRings.{coordinates, lines, ring_lines, lines_area, differ, agree, is_clear, is_clear_of, are_clear, is_plain_ring}
use Rattle.cad_shape.specs.declared.point.Point.{Point}
use Rattle.cad_shape.specs.declared.crossing.Pair.{Pair}
use Rattle.cad_shape.specs.declared.crossing.Pair.TheVariants.{Same, Next, Round, Far}
use Rattle.cad_shape.proofs.Signs.{sums}
use Rattle.cad_shape.proofs.SharedPoints.{meets_only}
use Rattle.cad_shape.proofs.Neighbours.{turn_from}
use Rattle.cad_shape.proofs.Walks.{length-edges}

-- the ends of an edge
ends : Edge → (ℤ × ℤ) × (ℤ × ℤ)
ends e = (coordinates e.from, coordinates e.to)

walk_ends : (p : Point) (qs : List Point) → map ends (walk p qs) ≡ lines (coordinates p) (map coordinates qs)
unfolding ends
walk_ends p [] = refl
walk_ends p (q ∷ qs) = ap (λ ls. (coordinates p, coordinates q) ∷ ls) (walk_ends q qs)

map_push : (qs : List Point) (p : Point) → map coordinates (qs ++ p ∷ []) ≡ map coordinates qs ++ coordinates p ∷ []
map_push [] p = refl
map_push (q ∷ qs) p = ap (λ ls. coordinates q ∷ ls) (map_push qs p)

ring_ends : (cs : List Point) → map ends (edges_of cs) ≡ ring_lines (map coordinates cs)
ring_ends [] = refl
ring_ends (p ∷ qs) = walk_ends p (qs ++ p ∷ []) ∙ ap (lines (coordinates p)) (map_push qs p)

area_ends : (es : List Edge) → lines_area (map ends es) ≡ doubled_area es
unfolding ends
area_ends [] = refl
area_ends (e ∷ es) = ap (λ z. (e.from.x *ℤ e.to.y -ℤ e.to.x *ℤ e.from.y) +ℤ z) (area_ends es)

length-places : (cs : List Point) → length (map coordinates cs) ≡ length cs
length-places [] = refl
length-places (c ∷ cs) = ap suc (length-places cs)

-- ---- tests

either : (b c : Bool) → (b || c) ≡ true → (b ≡ true) ⊎ (c ≡ true)
either true c e = inl refl
either false c e = inr e

below : (a b : ℤ) → int_lt a b ≡ true → a <ℤ b
below a b e = omega (arith, ints)

not_equal : (f g : ℤ) → differ f g ≡ true → ¬ (f ≡ g)
not_equal f g h e = ⊎_elim
    (λ k. let l = below f g k in absurd (omega (arith, sums)))
    (λ k. let l = below g f k in absurd (omega (arith, sums)))
    (either (int_lt f g) (int_lt g f) h)

not_straddled : (f g : ℤ) → agree f g ≡ true → ¬ (Straddle f g)
not_straddled f g h s = ⊎_elim
    (λ k. let d = and_parts (int_lt (pos 0) f) (int_lt (pos 0) g) k in let l = below (pos 0) f d.0 in let m = below (pos 0) g d.1 in
    ⊎_elim (λ t. absurd (omega (arith, sums))) (λ t. absurd (omega (arith, sums))) s)
    (λ k. let d = and_parts (int_lt f (pos 0)) (int_lt g (pos 0)) k in let l = below f (pos 0) d.0 in let m = below g (pos 0) d.1 in
    ⊎_elim (λ t. absurd (omega (arith, sums))) (λ t. absurd (omega (arith, sums))) s)
    (either (int_lt (pos 0) f && int_lt (pos 0) g) (int_lt f (pos 0) && int_lt g (pos 0)) h)

clear_shown : (k : Pair) (p q r s : Point) → is_clear k (coordinates p) (coordinates q) (coordinates r) (coordinates s) ≡ true → ¬ (Cross k p q r s)
clear_shown Same p q r s h c = ⊎_elim (λ d. not_equal p.x q.x d c.0) (λ d. not_equal p.y q.y d c.1) (either (differ p.x q.x) (differ p.y q.y) h)
clear_shown Next p q r s h c = not_equal (turn p q s) (pos 0) h (turn_from p q s c)
clear_shown Round p q r s h c = not_equal (turn r s q) (pos 0) h (turn_from r s q c)
clear_shown Far p q r s h c =
    let m = meets_only p q r s c in
    ⊎_elim (λ d. not_straddled (turn p q r) (turn p q s) d m.0) (λ d. not_straddled (turn r s p) (turn r s q) d m.1)
    (either (agree (turn p q r) (turn p q s)) (agree (turn r s p) (turn r s q)) h)

row_shown : (n i : ℕ) (e : Edge) (j : ℕ) (fs : List Edge) → is_clear_of n i (ends e) j (map ends fs) ≡ true → (l : ℕ) → l < length fs → ¬ (Cross (pair_of n i (j + l)) e.from e.to (edge_at fs l).from (edge_at fs l).to)
unfolding ends
row_shown n i e j [] h l m = absurd (omega arith)
row_shown n i e j (f ∷ fs) h zero m =
    let d = and_parts (is_clear (pair_of n i j) (coordinates e.from) (coordinates e.to) (coordinates f.from) (coordinates f.to)) (is_clear_of n i (ends e) (j + 1) (map ends fs)) h in
    let same : j ≡ j + 0 = omega arith in
    subst (λ k. ¬ (Cross (pair_of n i k) e.from e.to f.from f.to)) same (clear_shown (pair_of n i j) e.from e.to f.from f.to d.0)
row_shown n i e j (f ∷ fs) h (suc l) m =
    let d = and_parts (is_clear (pair_of n i j) (coordinates e.from) (coordinates e.to) (coordinates f.from) (coordinates f.to)) (is_clear_of n i (ends e) (j + 1) (map ends fs)) h in
    let same : j + 1 + l ≡ j + suc l = omega arith in
    subst (λ k. ¬ (Cross (pair_of n i k) e.from e.to (edge_at fs l).from (edge_at fs l).to)) same (row_shown n i e (j + 1) fs d.1 l (omega arith))

rows_shown : (n i : ℕ) (es : List Edge) → are_clear n i (map ends es) ≡ true → (k l : ℕ) → k ≤ l → l < length es → ¬ (Cross (pair_of n (i + k) (i + l)) (edge_at es k).from (edge_at es k).to (edge_at es l).from (edge_at es l).to)
unfolding ends
rows_shown n i [] h k l o m = absurd (omega arith)
rows_shown n i (e ∷ es) h zero l o m =
    let d = and_parts (is_clear_of n i (ends e) i (map ends (e ∷ es))) (are_clear n (i + 1) (map ends es)) h in
    let same : i ≡ i + 0 = omega arith in
    subst (λ k. ¬ (Cross (pair_of n k (i + l)) e.from e.to (edge_at (e ∷ es) l).from (edge_at (e ∷ es) l).to)) same (row_shown n i e i (e ∷ es) d.0 l m)
rows_shown n i (e ∷ es) h (suc k) zero o m = absurd (omega arith)
rows_shown n i (e ∷ es) h (suc k) (suc l) o m =
    let d = and_parts (is_clear_of n i (ends e) i (map ends (e ∷ es))) (are_clear n (i + 1) (map ends es)) h in
    let first : i + 1 + k ≡ i + suc k = omega arith in
    let second : i + 1 + l ≡ i + suc l = omega arith in
    subst (λ a. ¬ (Cross (pair_of n a (i + suc l)) (edge_at es k).from (edge_at es k).to (edge_at es l).from (edge_at es l).to)) first
    (subst (λ b. ¬ (Cross (pair_of n (i + 1 + k) b) (edge_at es k).from (edge_at es k).to (edge_at es l).from (edge_at es l).to)) second
    (rows_shown n (i + 1) es d.1 k l (omega arith) (omega arith)))

pub ring_shown : (corners : List Point) → is_plain_ring (map coordinates corners) ≡ true → IsRing corners
ring_shown corners h =
    let places = map coordinates corners in
    let a = and_parts (nat_le 3 (length places) && nat_le (length places) 1000 && differ (lines_area (ring_lines places)) (pos 0)) (are_clear (length places) 0 (ring_lines places)) h in
    let b = and_parts (nat_le 3 (length places) && nat_le (length places) 1000) (differ (lines_area (ring_lines places)) (pos 0)) a.0 in
    let c = and_parts (nat_le 3 (length places)) (nat_le (length places) 1000) b.0 in
    let few = leb-true 3 (length places) c.0 in
    let most = leb-true (length places) 1000 c.1 in
    let count = length-places corners in
    let clear = subst (λ ls. are_clear (length places) 0 ls ≡ true) (sym (ring_ends corners)) a.1 in
    let area = ap lines_area (sym (ring_ends corners)) ∙ area_ends (edges_of corners) in
    record {
      counted = (omega arith, omega arith);
      has_area = λ e. not_equal (lines_area (ring_lines places)) (pos 0) b.1 (area ∙ e);
      simple = λ k l o m.
          subst (λ n. ¬ (Cross (pair_of n k l) (edge_at (edges_of corners) k).from (edge_at (edges_of corners) k).to (edge_at (edges_of corners) l).from (edge_at (edges_of corners) l).to)) (count ∙ sym (length-edges corners))
          (subst (λ a. ¬ (Cross (pair_of (length places) a l) (edge_at (edges_of corners) k).from (edge_at (edges_of corners) k).to (edge_at (edges_of corners) l).from (edge_at (edges_of corners) l).to)) (let e : 0 + k ≡ k = omega arith in e)
          (subst (λ a. ¬ (Cross (pair_of (length places) (0 + k) a) (edge_at (edges_of corners) k).from (edge_at (edges_of corners) k).to (edge_at (edges_of corners) l).from (edge_at (edges_of corners) l).to)) (let e : 0 + l ≡ l = omega arith in e)
          (rows_shown (length places) 0 (edges_of corners) clear k l o m)));
    }
