-- Rings of a region.
use Rattle.std.proofs.Common.{◌≡◌, ◌↔◌, ℕ, suc, ◌+◌, ◌%◌, ◌<◌, ℤ, ◌≤ℤ◌, inl, inr, ⊎_elim, List, [], ◌∷◌, ◌++◌, length, get_or, drop, sym, ap, ◌∙◌, subst, append-nil, arith}
use Rattle.std.specs.List.{All, AllByRecursion}
use Rattle.std.proofs.lemmas.Int.{by_lt_z}
use Rattle.std.proofs.lemmas.List.{get_or-map, at_drop_more}
use Rattle.std.proofs.lemmas.List.Elements.{All-from_recursion, recursion_from_All, All-append, All-nil}
use Rattle.cad_shape.specs.declared.point.Point.{Point}
use Rattle.cad_shape.specs.declared.boxes.Bounds.{Bounds}
use Rattle.cad_shape.specs.declared.ring.Ring.{Ring}
use Rattle.cad_shape.specs.Edges.{Edge, AnyOf, edges_of}
use Rattle.cad_shape.specs.Frames.{IsHeld, IsLeastBounds}
use Rattle.cad_shape.specs.Polygons.{rings_corners, rings_edges, ring_at, ReachesOut, IsOutside, NoneOutside, IsRegion}
use Rattle.cad_shape.specs.Regions.{IsOnEdge, IsOnSome, crossings, IsInRegion}
use Rattle.cad_shape.specs.Rings.{corners_of}
use Rattle.std.proofs.lemmas.Bool.{cases_lt}
use Rattle.cad_shape.proofs.Signs.{sums}
use Rattle.cad_shape.proofs.Walks.{any_split, crossings-append}
use Rattle.cad_shape.proofs.Inside.{in_bounds}
use Rattle.cad_shape.proofs.Overlaps.{all_before, all_after}
use Rattle.cad_shape.proofs.RingCorners.{all_mapped, corners_on}

-- ring i, by its place in the list
pub ring_is_at : (rings : List Ring) (i : ℕ) (r : Ring) → i < length rings → r ≡ get_or rings i r → ring_at rings i ≡ corners_of r
ring_is_at rings i r h e = subst (λ (z : Ring). ring_at rings i ≡ corners_of z) (sym e) (get_or-map corners_of rings i r [] h)

same_reach : (P : List Point → List Point → Type 0) (os bs cs ds : List Point) → os ≡ bs → cs ≡ ds → P os cs → P bs ds
same_reach P os bs cs ds e f h = subst (λ qs. P bs qs) f (subst (λ qs. P qs cs) e h)

pub outside_is : (rings : List Ring) (i : ℕ) (outer r : Ring) → i < length rings → outer ≡ get_or rings 0 outer → r ≡ get_or rings i r → ReachesOut (corners_of outer) (corners_of r) ↔ IsOutside rings i
outside_is rings i outer r h e f =
    let k : 0 < length rings = omega arith in
    let a = ring_is_at rings 0 outer k e in
    let b = ring_is_at rings i r h f in
    (same_reach ReachesOut _ _ _ _ (sym a) (sym b), same_reach ReachesOut _ _ _ _ a b)

-- ---- the corners of a ring lie in its region
none_out : (outer corners : List Point) → AllByRecursion (λ (c : Point). IsInRegion c (edges_of outer)) corners → ¬ (ReachesOut outer corners)
none_out outer [] h m = absurd m
none_out outer (c ∷ cs) h (inl m) = m h.0
none_out outer (c ∷ cs) h (inr m) = none_out outer cs h.1 m

pub outer_inside : (rings : List Ring) → ¬ (IsOutside rings 0)
outer_inside rings =
    let cs = ring_at rings 0 in
    none_out cs cs (all_mapped (λ (c : Point). IsOnSome c (edges_of cs)) (λ (c : Point). IsInRegion c (edges_of cs)) (λ c h. inl h) cs (corners_on cs))

-- a ring alone is a region
pub ring_alone : (ring : Ring) → IsRegion (ring ∷ [])
ring_alone ring =
    let few = ring.not_too_many in
    let one : length (rings_corners (ring ∷ [])) ≡ length (corners_of ring) = ap length (append-nil (corners_of ring)) in
    record {
      some = omega arith;
      few = (omega arith, omega (arith, few, one));
      inside = λ i h. let e : 0 ≡ i = omega (arith, h) in subst (λ k. ¬ (IsOutside (ring ∷ []) k)) e (outer_inside (ring ∷ []));
    }

-- a corner that lies in the region
pub in_step : (outer corners : List Point) (i : ℕ) (c : Point) → i < length corners → c ≡ get_or corners i c → IsInRegion c (edges_of outer) → ReachesOut outer (drop i corners) ↔ ReachesOut outer (drop (i + 1) corners)
in_step outer corners i c h e k =
    let f : drop i corners ≡ c ∷ drop (i + 1) corners = at_drop_more (λ qs. qs) corners i c h ∙ ap (λ z. z ∷ drop (i + 1) corners) (sym e) in
    rw f (λ m. ⊎_elim (λ n. absurd (n k)) (λ n. n) m, λ m. inr m)

-- ---- a box that holds the exterior boundary holds all rings
low_held : (a b : ℤ) → ¬ (¬ (a ≤ℤ b)) → a ≤ℤ b
low_held a b n = by_lt_z b a (λ h. absurd (n (λ k. absurd (omega (arith, sums))))) (λ k. k)

held_shown : (b : Bounds) (p : Point) → ¬ (¬ (IsHeld b p)) → IsHeld b p
held_shown b p n = (
  (low_held b.x_min p.x (λ m. n (λ h. m h.0.0)), low_held p.x b.x_max (λ m. n (λ h. m h.0.1))),
  (low_held b.y_min p.y (λ m. n (λ h. m h.1.0)), low_held p.y b.y_max (λ m. n (λ h. m h.1.1))),
)

hole_held : (b : Bounds) (outer corners : List Point) → All (IsHeld b) outer → ¬ (ReachesOut outer corners) → AllByRecursion (IsHeld b) corners
hole_held b outer [] h n = tt
hole_held b outer (c ∷ cs) h n = (
  held_shown b c (λ m. n (inl (λ k. m (in_bounds b c outer h k)))),
  hole_held b outer cs h (λ m. n (inr m)),
)

holes_held : (b : Bounds) (outer : List Point) (rings : List Ring) → All (IsHeld b) outer → ((i : ℕ) → i < length rings → ¬ (ReachesOut outer (ring_at rings i))) → All (IsHeld b) (rings_corners rings)
holes_held b outer [] h n = All-nil (IsHeld b)
holes_held b outer (r ∷ rs) h n = All-append (IsHeld b) (corners_of r) (rings_corners rs)
    (All-from_recursion (IsHeld b) (corners_of r) (hole_held b outer (corners_of r) h (n 0 (omega arith))))
    (holes_held b outer rs h (λ i k. n (suc i) (omega arith)))

outer_held : (b : Bounds) (rings : List Ring) → All (IsHeld b) (rings_corners rings) → All (IsHeld b) (ring_at rings 0)
outer_held b [] h = All-nil (IsHeld b)
outer_held b (r ∷ rs) h = All-from_recursion (IsHeld b) (corners_of r) (all_before (IsHeld b) (corners_of r) (rings_corners rs) (recursion_from_All (IsHeld b) (corners_of r ++ rings_corners rs) h))

pub all_held : (b : Bounds) (rings : List Ring) → NoneOutside rings → IsLeastBounds b (ring_at rings 0) → IsLeastBounds b (rings_corners rings)
all_held b rings n l = record {
  holds = holes_held b (ring_at rings 0) rings l.holds n;
  least = λ other h. l.least other (outer_held other rings h);
}

-- ---- a point in a region lies in the region of some ring
pub in_some : (t : Point) (rings : List Ring) → IsInRegion t (rings_edges rings) → AnyOf (λ (r : Ring). IsInRegion t (edges_of (corners_of r))) rings
in_some t [] (inl h) = absurd h
in_some t [] (inr h) = absurd (omega arith)
in_some t (r ∷ rs) (inl h) = ⊎_elim
    (λ k. inl (inl k))
    (λ k. inr (in_some t rs (inl k)))
    (any_split (λ (e : Edge). IsOnEdge t e.from e.to) (edges_of (corners_of r)) (rings_edges rs) h)
in_some t (r ∷ rs) (inr h) =
    let e = crossings-append t (edges_of (corners_of r)) (rings_edges rs) in
    ⊎_elim
    (λ k. inr (in_some t rs (inr (omega arith))))
    (λ k. inl (inr (omega arith)))
    (cases_lt (crossings t (edges_of (corners_of r)) % 2) 1)

some_ring_held : (b : Bounds) (t : Point) (rings : List Ring) → AllByRecursion (IsHeld b) (rings_corners rings) → AnyOf (λ (r : Ring). IsInRegion t (edges_of (corners_of r))) rings → IsHeld b t
some_ring_held b t [] h k = absurd k
some_ring_held b t (r ∷ rs) h (inl k) = in_bounds b t (corners_of r) (All-from_recursion (IsHeld b) (corners_of r) (all_before (IsHeld b) (corners_of r) (rings_corners rs) h)) k
some_ring_held b t (r ∷ rs) h (inr k) = some_ring_held b t rs (all_after (IsHeld b) (corners_of r) (rings_corners rs) h) k

pub in_rings_held : (b : Bounds) (t : Point) (rings : List Ring) → All (IsHeld b) (rings_corners rings) → IsInRegion t (rings_edges rings) → IsHeld b t
in_rings_held b t rings h k = some_ring_held b t rings (recursion_from_All (IsHeld b) (rings_corners rings) h) (in_some t rings k)
