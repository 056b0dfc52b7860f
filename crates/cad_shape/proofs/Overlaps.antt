-- Segments that meet lie in boxes that overlap.
use Rattle.std.proofs.Common.{◌⊎◌, ℤ, pos, ◌*ℤ◌, ◌≤ℤ◌, ◌<ℤ◌, inl, inr, ⊎_elim, List, [], ◌∷◌, ◌++◌, arith}
use Rattle.std.specs.List.{All, AllByRecursion}
use Rattle.std.proofs.lemmas.Int.{by_lt_z}
use Rattle.std.proofs.lemmas.List.Elements.{recursion_from_All}
use Rattle.cad_shape.specs.Segments.{IsBetween, IsOutOf, Meet}
use Rattle.cad_shape.specs.Frames.{IsHeld, Overlap}
use Rattle.cad_shape.specs.Edges.{Edge, walk, edges_of, end_of}
use Rattle.cad_shape.specs.Regions.{MeetsSome, SomeMeet}
use Rattle.cad_shape.specs.declared.point.Point.{Point}
use Rattle.cad_shape.specs.declared.boxes.Bounds.{Bounds}
use Rattle.cad_shape.specs.declared.ring.Ring.{Ring}
use Rattle.cad_shape.specs.Polygons.{rings_corners, rings_edges}
use Rattle.cad_shape.specs.Rings.{corners_of}
use Rattle.cad_shape.proofs.Signs.{sums, times_below, keeps}
use Rattle.cad_shape.proofs.Walks.{any_unpushed, opened}
use Rattle.cad_shape.proofs.SharedPoints.{meet_exchanged}
use Rattle.cad_shape.proofs.Inside.{end_held}

-- what lies between two numbers of a range lies in the range
above : (w low p q x : ℤ) → pos 0 <ℤ w → low ≤ℤ p → low ≤ℤ q → IsBetween (w *ℤ p) (w *ℤ q) x → (w *ℤ low) ≤ℤ x
above w low p q x h i j (inl k) = let e = keeps w low p h i in omega (arith, sums)
above w low p q x h i j (inr k) = let e = keeps w low q h j in omega (arith, sums)

below : (w high p q x : ℤ) → pos 0 <ℤ w → p ≤ℤ high → q ≤ℤ high → IsBetween (w *ℤ p) (w *ℤ q) x → x ≤ℤ (w *ℤ high)
below w high p q x h i j (inl k) = let e = keeps w q high h j in omega (arith, sums)
below w high p q x h i j (inr k) = let e = keeps w p high h i in omega (arith, sums)

reaches_over : (w low high x : ℤ) → pos 0 <ℤ w → (w *ℤ low) ≤ℤ x → x ≤ℤ (w *ℤ high) → low ≤ℤ high
reaches_over w low high x h i j = by_lt_z high low (λ k. let e = times_below w high low h k in absurd (omega (arith, sums))) (λ k. k)

pub meet_overlap : (a b : Bounds) (p q r s : Point) → IsHeld a p → IsHeld a q → IsHeld b r → IsHeld b s → Meet p q r s → Overlap a b
meet_overlap a b p q r s hp hq hr hs m =
    let w = m.2 in
    let h = m.3.whole in
    let f = m.3.first in
    let g = m.3.second in (
      (
        reaches_over w a.x_min b.x_max m.0 h (above w a.x_min p.x q.x m.0 h hp.0.0 hq.0.0 f.in_x) (below w b.x_max r.x s.x m.0 h hr.0.1 hs.0.1 g.in_x),
        reaches_over w b.x_min a.x_max m.0 h (above w b.x_min r.x s.x m.0 h hr.0.0 hs.0.0 g.in_x) (below w a.x_max p.x q.x m.0 h hp.0.1 hq.0.1 f.in_x),
      ),
      (
        reaches_over w a.y_min b.y_max m.1 h (above w a.y_min p.y q.y m.1 h hp.1.0 hq.1.0 f.in_y) (below w b.y_max r.y s.y m.1 h hr.1.1 hs.1.1 g.in_y),
        reaches_over w b.y_min a.y_max m.1 h (above w b.y_min r.y s.y m.1 h hr.1.0 hs.1.0 g.in_y) (below w a.y_max p.y q.y m.1 h hp.1.1 hq.1.1 f.in_y),
      ),
    )

-- a segment that lies beside a box, in one coordinate
misses : (w low high p q r s x : ℤ) → pos 0 <ℤ w → low ≤ℤ p → p ≤ℤ high → low ≤ℤ q → q ≤ℤ high → IsBetween (w *ℤ p) (w *ℤ q) x → IsBetween (w *ℤ r) (w *ℤ s) x → ¬ (IsOutOf low high r s)
misses w low high p q r s x h a b c d i j (inl o) =
    let e = above w low p q x h a c i in
    let f = times_below w r low h o.0 in
    let g = times_below w s low h o.1 in
    ⊎_elim (λ k. absurd (omega (arith, sums))) (λ k. absurd (omega (arith, sums))) j
misses w low high p q r s x h a b c d i j (inr o) =
    let e = below w high p q x h b d i in
    let f = times_below w high r h o.0 in
    let g = times_below w high s h o.1 in
    ⊎_elim (λ k. absurd (omega (arith, sums))) (λ k. absurd (omega (arith, sums))) j

pub beside_misses : (b : Bounds) (p q r s : Point) → IsOutOf b.x_min b.x_max r.x s.x ⊎ IsOutOf b.y_min b.y_max r.y s.y → IsHeld b p → IsHeld b q → ¬ (Meet p q r s)
beside_misses b p q r s (inl o) hp hq m = misses m.2 b.x_min b.x_max p.x q.x r.x s.x m.0 m.3.whole hp.0.0 hp.0.1 hq.0.0 hq.0.1 m.3.first.in_x m.3.second.in_x o
beside_misses b p q r s (inr o) hp hq m = misses m.2 b.y_min b.y_max p.y q.y r.y s.y m.1 m.3.whole hp.1.0 hp.1.1 hq.1.0 hq.1.1 m.3.first.in_y m.3.second.in_y o

-- a segment that misses all in a box misses a ring in it
walk_missed : (b : Bounds) (p q : Point) → ((r s : Point) → IsHeld b r → IsHeld b s → ¬ (Meet r s p q)) → (r : Point) (ss : List Point) → IsHeld b r → AllByRecursion (IsHeld b) ss → ¬ (MeetsSome p q (walk r ss))
walk_missed b p q n r [] hr k m = absurd m
walk_missed b p q n r (s ∷ ss) hr k (inl m) = n r s hr k.0 (meet_exchanged p q r s m)
walk_missed b p q n r (s ∷ ss) hr k (inr m) = walk_missed b p q n s ss k.0 k.1 m

pub ring_missed : (b : Bounds) (p q : Point) → ((r s : Point) → IsHeld b r → IsHeld b s → ¬ (Meet r s p q)) → (cs : List Point) → All (IsHeld b) cs → ¬ (MeetsSome p q (edges_of cs))
ring_missed b p q n [] h m = absurd m
ring_missed b p q n (c ∷ cs) h m =
    let k = recursion_from_All (IsHeld b) (c ∷ cs) h in
    walk_missed b p q n (end_of c cs) (c ∷ cs) (end_held b c cs k.0 k.1) k
    (opened (MeetsSome p q) (λ es e. any_unpushed (λ (f : Edge). Meet p q f.from f.to) es e) c cs m)

-- ---- edges with both ends in a box
abbrev pub AreHeld : Bounds → List Edge → Type 0
AreHeld b es = AllByRecursion (λ (e : Edge). IsHeld b e.from × IsHeld b e.to) es

walk_edges_held : (b : Bounds) (p : Point) (qs : List Point) → IsHeld b p → AllByRecursion (IsHeld b) qs → AreHeld b (walk p qs)
walk_edges_held b p [] h k = tt
walk_edges_held b p (q ∷ qs) h k = ((h, k.0), walk_edges_held b q qs k.0 k.1)

pub all_append : {X : Type 0} (P : X → Type 0) (xs ys : List X) → AllByRecursion P xs → AllByRecursion P ys → AllByRecursion P (xs ++ ys)
all_append P [] ys h k = k
all_append P (x ∷ xs) ys h k = (h.0, all_append P xs ys h.1 k)

pub edges_held : (b : Bounds) (cs : List Point) → AllByRecursion (IsHeld b) cs → AreHeld b (edges_of cs)
edges_held b [] h = tt
edges_held b (p ∷ qs) h = walk_edges_held b p (qs ++ p ∷ []) h.0 (all_append (IsHeld b) qs (p ∷ []) h.1 (h.0, tt))

pub all_before : {X : Type 0} (P : X → Type 0) (xs ys : List X) → AllByRecursion P (xs ++ ys) → AllByRecursion P xs
all_before P [] ys h = tt
all_before P (x ∷ xs) ys h = (h.0, all_before P xs ys h.1)

pub all_after : {X : Type 0} (P : X → Type 0) (xs ys : List X) → AllByRecursion P (xs ++ ys) → AllByRecursion P ys
all_after P [] ys h = h
all_after P (x ∷ xs) ys h = all_after P xs ys h.1

pub rings_edges_held : (b : Bounds) (rings : List Ring) → AllByRecursion (IsHeld b) (rings_corners rings) → AreHeld b (rings_edges rings)
rings_edges_held b [] h = tt
rings_edges_held b (r ∷ rs) h = all_append (λ (e : Edge). IsHeld b e.from × IsHeld b e.to) (edges_of (corners_of r)) (rings_edges rs)
    (edges_held b (corners_of r) (all_before (IsHeld b) (corners_of r) (rings_corners rs) h))
    (rings_edges_held b rs (all_after (IsHeld b) (corners_of r) (rings_corners rs) h))

edge_overlaps : (a b : Bounds) (p q : Point) → IsHeld a p → IsHeld a q → (fs : List Edge) → AreHeld b fs → MeetsSome p q fs → Overlap a b
edge_overlaps a b p q hp hq [] k m = absurd m
edge_overlaps a b p q hp hq (f ∷ fs) k (inl m) = meet_overlap a b p q f.from f.to hp hq k.0.0 k.0.1 m
edge_overlaps a b p q hp hq (f ∷ fs) k (inr m) = edge_overlaps a b p q hp hq fs k.1 m

-- edges in one box that meet edges in another
pub edges_overlap : (a b : Bounds) (es fs : List Edge) → AreHeld a es → AreHeld b fs → SomeMeet es fs → Overlap a b
edges_overlap a b [] fs h k m = absurd m
edges_overlap a b (e ∷ es) fs h k (inl m) = edge_overlaps a b e.from e.to h.0.0 h.0.1 fs k m
edges_overlap a b (e ∷ es) fs h k (inr m) = edges_overlap a b es fs h.1 k m
