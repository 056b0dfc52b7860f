-- What the laws of regions and shapes stand on.
use Rattle.std.proofs.Common.{◌≡◌, ◌↔◌, ℕ, ◌+◌, ◌%◌, ◌<◌, if◌then◌else◌, inl, inr, ⊎_elim, ℤ, pos, ◌≤ℤ◌, List, [], ◌∷◌, ◌++◌, length, refl, sym, ap, ap₂, ◌∙◌, subst, arith, length-append}
use Rattle.std.specs.List.{All, AllByRecursion}
use mathlib.Core.List.{reverse}
use Rattle.std.proofs.lemmas.List.{reverse-append, reverse-reverse}
use Rattle.std.proofs.lemmas.Bool.{cases_lt}
use Rattle.std.proofs.lemmas.Int.{by_lt_z}
use Rattle.std.proofs.lemmas.List.Elements.{All-from_recursion, All-cons, All-nil, All-head}
use Rattle.cad_shape.specs.Segments.{Meet}
use Rattle.cad_shape.specs.Edges.{Edge, walk, edges_of, end_of}
use Rattle.cad_shape.specs.Frames.{IsHeld, IsLeastBounds, frame_corners}
use Rattle.cad_shape.specs.Regions.{IsOnEdge, IsOnSome, crossings, passes, IsInRegion, MeetsSome, SomeMeet}
use Rattle.cad_shape.specs.Crossings.{IsFirstCrossing}
use Rattle.cad_shape.specs.lemmas.SameLemmas.{same_bounds}
use Rattle.cad_shape.specs.Rings.{corners_of, IsRingFault}
use Rattle.cad_shape.specs.Polygons.{rings_corners, rings_edges}
use Rattle.cad_shape.specs.declared.ring.Ring.{Ring}
use Rattle.cad_shape.specs.declared.polygon.RegionFault.{RegionFault}
use Rattle.cad_shape.specs.declared.polygon.RegionFault.TheVariants as region
use Rattle.cad_shape.specs.Polygons.{AreFew, IsFirstOutside}
use Rattle.cad_shape.specs.RegionRings.{rings_of, region_corners, region_edges, IsRegionFault}
use Rattle.cad_shape.specs.declared.ring.RingFault.{RingFault}
use Rattle.cad_shape.specs.declared.ring.RingFault.TheVariants.{TooFew, TooMany, Crosses, Flat}
use Rattle.cad_shape.specs.Shapes.{shape_corners, shape_edges, IsIn, SomeIn, RegionsMeet, Meets, IsWithin}
use Rattle.cad_shape.specs.declared.point.Point.{Point}
use Rattle.cad_shape.specs.declared.boxes.Bounds.{Bounds}
use Rattle.cad_shape.specs.declared.shape.Shape.{Shape}
use Rattle.cad_shape.specs.declared.shape.Shape.TheVariants.{Spot, Frame, Area}
use Rattle.cad_shape.proofs.Signs.{sums}
use Rattle.cad_shape.proofs.SharedPoints.{on_turned, meet_exchanged}
use Rattle.cad_shape.proofs.Heights.{passes_up, passes_down, passes_over, passes_under}
use Rattle.cad_shape.proofs.Walks.{any_pushed, any_split, crossings-append, any_unpushed, any_mapped, any_before, any_after, crossings-push, walk-push}
use Rattle.cad_shape.proofs.Overlaps.{all_append}
use Rattle.cad_shape.proofs.RingCorners.{all_mapped, corners_on}
use Rattle.cad_shape.proofs.ShapeLemmas.{frame_least}

-- ---- the corners of a ring may begin anywhere
end_push : (p r : Point) (qs : List Point) → end_of p (qs ++ r ∷ []) ≡ r
end_push p r [] = refl
end_push p r (q ∷ qs) = end_push q r qs

-- the edges of a ring that is turned by one corner: the first edge is now the last
turned_edges : (p q : Point) (qs : List Point) → edges_of (q ∷ (qs ++ p ∷ [])) ≡ walk q (qs ++ p ∷ []) ++ record { from = p; to = q } ∷ []
turned_edges p q qs = walk-push q q (qs ++ p ∷ []) ∙ ap (λ e. walk q (qs ++ p ∷ []) ++ record { from = e; to = q } ∷ []) (end_push q p qs)

-- two lists of edges on which a point lies alike, and which cross its height as often right of it
abbrev pub AreAlike : Point → List Edge → List Edge → Type 0
AreAlike t es fs = (IsOnSome t es ↔ IsOnSome t fs) × (crossings t es ≡ crossings t fs)

alike_region : (t : Point) (es fs : List Edge) → AreAlike t es fs → IsInRegion t es ↔ IsInRegion t fs
alike_region t es fs a = (
  λ h. ⊎_elim (λ k. inl (a.0.0 k)) (λ k. inr (sym (ap (λ n. n % 2) a.1) ∙ k)) h,
  λ h. ⊎_elim (λ k. inl (a.0.1 k)) (λ k. inr (ap (λ n. n % 2) a.1 ∙ k)) h,
)

alike_joined : (t : Point) (es fs gs : List Edge) → AreAlike t es fs → AreAlike t fs gs → AreAlike t es gs
alike_joined t es fs gs a b = ((λ h. b.0.0 (a.0.0 h), λ h. a.0.1 (b.0.1 h)), a.1 ∙ b.1)

on_around : (t : Point) (es fs before after : List Edge) → (IsOnSome t es → IsOnSome t fs) → IsOnSome t (before ++ es ++ after) → IsOnSome t (before ++ fs ++ after)
on_around t es fs before after f h =
    let P = λ (e : Edge). IsOnEdge t e.from e.to in
    ⊎_elim
    (λ k. any_before P (before ++ fs) after (⊎_elim (any_before P before fs) (λ m. any_after P before fs (f m)) (any_split P before es k)))
    (λ k. any_after P (before ++ fs) after k)
    (any_split P (before ++ es) after h)

alike_around : (t : Point) (es fs before after : List Edge) → AreAlike t es fs → IsInRegion t (before ++ es ++ after) ↔ IsInRegion t (before ++ fs ++ after)
alike_around t es fs before after a =
    let e = crossings-append t (before ++ es) after ∙ ap (λ n. n + crossings t after) (crossings-append t before es) in
    let f = crossings-append t (before ++ fs) after ∙ ap (λ n. n + crossings t after) (crossings-append t before fs) in
    let k = a.1 in
    alike_region t (before ++ es ++ after) (before ++ fs ++ after) ((on_around t es fs before after a.0.0, on_around t fs es before after a.0.1), omega (arith, e, f, k))

turned_alike : (t p : Point) (qs : List Point) → AreAlike t (edges_of (p ∷ qs)) (edges_of (qs ++ p ∷ []))
turned_alike t p [] = ((λ h. h, λ h. h), refl)
turned_alike t p (q ∷ qs) =
    let e = turned_edges p q qs in
    let P = λ (d : Edge). IsOnEdge t d.from d.to in
    let es = walk q (qs ++ p ∷ []) in
    let first : Edge = record { from = p; to = q } in
    subst (λ fs. AreAlike t (first ∷ es) fs) (sym e) ((any_pushed P es first, any_unpushed P es first), sym (crossings-push t es first))

pub turned_region : (t p : Point) (qs : List Point) (before after : List Edge) → IsInRegion t (before ++ edges_of (p ∷ qs) ++ after) ↔ IsInRegion t (before ++ edges_of (qs ++ p ∷ []) ++ after)
turned_region t p qs before after = alike_around t (edges_of (p ∷ qs)) (edges_of (qs ++ p ∷ [])) before after (turned_alike t p qs)

-- ---- the corners of a ring may stand in the other order
passes_turned : (t p q : Point) → passes t p q ≡ passes t q p
passes_turned t p q = by_lt_z t.y p.y
    (λ h. by_lt_z t.y q.y (λ k. passes_over t p q h k ∙ sym (passes_over t q p k h)) (λ k. passes_down t p q k h ∙ sym (passes_up t q p k h)))
    (λ h. by_lt_z t.y q.y (λ k. passes_up t p q h k ∙ sym (passes_down t q p h k)) (λ k. passes_under t p q h k ∙ sym (passes_under t q p k h)))

counted_turned : (t p q : Point) → ◌≡◌ {A = ℕ} (if passes t p q then 1 else 0) (if passes t q p then 1 else 0)
counted_turned t p q = ap {B = ℕ} (λ b. if b then 1 else 0) (passes_turned t p q)

-- the walk through the corners in the other order: its last edge is the first, turned
turned_walk : (p q r : Point) (qs : List Point) → walk p (reverse (q ∷ qs) ++ r ∷ []) ≡ walk p (reverse qs ++ q ∷ []) ++ record { from = q; to = r } ∷ []
turned_walk p q r qs =
    ap (λ cs. walk p (cs ++ r ∷ [])) (reverse-append (q ∷ []) qs)
    ∙ walk-push p r (reverse qs ++ q ∷ [])
    ∙ ap (λ e. walk p (reverse qs ++ q ∷ []) ++ record { from = e; to = r } ∷ []) (end_push p q (reverse qs))

crossings_turned : (t p r : Point) (qs : List Point) → crossings t (walk p (reverse qs ++ r ∷ [])) ≡ crossings t (walk r (qs ++ p ∷ []))
crossings_turned t p r [] = let e = counted_turned t p r in omega (arith, e)
crossings_turned t p r (q ∷ qs) =
    let e = ap (crossings t) (turned_walk p q r qs) ∙ crossings-push t (walk p (reverse qs ++ q ∷ [])) (record { from = q; to = r }) in
    let d = counted_turned t q r in
    let h = crossings_turned t p q qs in
    omega (arith, e, d, h)

on_some_turned : (t p r : Point) (qs : List Point) → IsOnSome t (walk p (reverse qs ++ r ∷ [])) → IsOnSome t (walk r (qs ++ p ∷ []))
on_some_turned t p r [] (inl h) = inl (on_turned p r t.x t.y (pos 1) h)
on_some_turned t p r [] (inr h) = absurd h
on_some_turned t p r (q ∷ qs) h = ⊎_elim
    (λ k. inl (on_turned q r t.x t.y (pos 1) k))
    (λ k. inr (on_some_turned t p q qs k))
    (any_unpushed (λ (e : Edge). IsOnEdge t e.from e.to) (walk p (reverse qs ++ q ∷ [])) (record { from = q; to = r }) (subst (IsOnSome t) (turned_walk p q r qs) h))

walk_alike : (t p r : Point) (qs : List Point) → AreAlike t (walk p (reverse qs ++ r ∷ [])) (walk r (qs ++ p ∷ []))
walk_alike t p r qs = (
  (on_some_turned t p r qs, λ h. on_some_turned t r p (reverse qs) (subst (λ cs. IsOnSome t (walk r (cs ++ p ∷ []))) (sym (reverse-reverse qs)) h)),
  crossings_turned t p r qs,
)

order_alike : (t : Point) (cs : List Point) → AreAlike t (edges_of (reverse cs)) (edges_of cs)
order_alike t [] = ((λ h. h, λ h. h), refl)
order_alike t (p ∷ qs) =
    let a = turned_alike t p (reverse qs) in
    subst (λ cs. AreAlike t (edges_of cs) (edges_of (p ∷ qs))) (sym (reverse-append (p ∷ []) qs))
    (alike_joined t _ _ _ ((a.0.1, a.0.0), sym a.1) (walk_alike t p p qs))

pub order_region : (t : Point) (cs : List Point) (before after : List Edge) → IsInRegion t (before ++ edges_of cs ++ after) ↔ IsInRegion t (before ++ edges_of (reverse cs) ++ after)
order_region t cs before after =
    let h = alike_around t (edges_of (reverse cs)) (edges_of cs) before after (order_alike t cs) in
    (h.1, h.0)

-- ---- meeting is symmetric
meets_both : (p q : Point) (es : List Edge) (fs : List Edge) → MeetsSome p q fs → SomeMeet fs (record { from = p; to = q } ∷ es)
meets_both p q es fs h = any_mapped (λ (f : Edge). Meet p q f.from f.to) (λ (f : Edge). MeetsSome f.from f.to (record { from = p; to = q } ∷ es)) (λ f m. inl (meet_exchanged p q f.from f.to m)) fs h

some_meet_turned : (es fs : List Edge) → SomeMeet es fs → SomeMeet fs es
some_meet_turned [] fs h = absurd h
some_meet_turned (e ∷ es) fs (inl h) = meets_both e.from e.to es fs h
some_meet_turned (e ∷ es) fs (inr h) =
    any_mapped (λ (f : Edge). MeetsSome f.from f.to es) (λ (f : Edge). MeetsSome f.from f.to (e ∷ es)) (λ f m. inr m) fs (some_meet_turned es fs h)

regions_turned : (a b : Shape) → RegionsMeet a b → RegionsMeet b a
regions_turned a b (inl h) = inl (some_meet_turned (shape_edges a) (shape_edges b) h)
regions_turned a b (inr (inl h)) = inr (inr h)
regions_turned a b (inr (inr h)) = inr (inl h)

pub meets_turned : (a b : Shape) → Meets a b → Meets b a
meets_turned (Spot p) (Spot q) h = (sym h.0, sym h.1)
meets_turned (Spot p) (Frame g) h = h
meets_turned (Spot p) (Area s) h = h
meets_turned (Frame f) (Spot q) h = h
meets_turned (Frame f) (Frame g) h = regions_turned (Frame f) (Frame g) h
meets_turned (Frame f) (Area s) h = regions_turned (Frame f) (Area s) h
meets_turned (Area r) (Spot q) h = h
meets_turned (Area r) (Frame g) h = regions_turned (Area r) (Frame g) h
meets_turned (Area r) (Area s) h = regions_turned (Area r) (Area s) h

-- ---- the corners of a shape lie in it
rings_corners_on : (rings : List Ring) → AllByRecursion (λ (c : Point). IsOnSome c (rings_edges rings)) (rings_corners rings)
rings_corners_on [] = tt
rings_corners_on (r ∷ rs) =
    let es = edges_of (corners_of r) in
    let fs = rings_edges rs in
    all_append (λ (c : Point). IsOnSome c (es ++ fs)) (corners_of r) (rings_corners rs)
    (all_mapped (λ (c : Point). IsOnSome c es) (λ (c : Point). IsOnSome c (es ++ fs)) (λ c h. any_before (λ (e : Edge). IsOnEdge c e.from e.to) es fs h) (corners_of r) (corners_on (corners_of r)))
    (all_mapped (λ (c : Point). IsOnSome c fs) (λ (c : Point). IsOnSome c (es ++ fs)) (λ c h. any_after (λ (e : Edge). IsOnEdge c e.from e.to) es fs h) (rings_corners rs) (rings_corners_on rs))

pub corners_in : (shape : Shape) → All (λ corner. IsIn corner shape) (shape_corners shape)
corners_in (Spot p) = All-cons (λ (c : Point). IsIn c (Spot p)) p [] (refl, refl) (All-nil (λ (c : Point). IsIn c (Spot p)))
corners_in (Frame b) = (frame_least b).holds
corners_in (Area region) = All-from_recursion (λ (c : Point). IsInRegion c (region_edges region)) (region_corners region)
    (all_mapped (λ (c : Point). IsOnSome c (region_edges region)) (λ (c : Point). IsInRegion c (region_edges region)) (λ c h. inl h) (region_corners region) (rings_corners_on (rings_of region)))

-- ---- a shape within another meets it
some_framed : (g : Bounds) (cs : List Point) → 0 < length cs → All (IsHeld g) cs → SomeIn cs (Frame g)
some_framed g [] h k = absurd (omega arith)
some_framed g (c ∷ cs) h k = inl (All-head (IsHeld g) c cs k)

some_corners : (rings : List Ring) → 0 < length rings → 0 < length (rings_corners rings)
some_corners [] h = absurd (omega arith)
some_corners (r ∷ rs) h = let e = r.enough in omega (arith, length-append (corners_of r) (rings_corners rs))

pub within_meets : (a b : Shape) → IsWithin a b → Meets a b
within_meets (Spot p) b h = h.0
within_meets (Frame f) (Spot q) h = absurd h
within_meets (Frame f) (Frame g) h = inr (inl (some_framed g (frame_corners f) (omega arith) h))
within_meets (Frame f) (Area s) h = absurd h
within_meets (Area r) (Spot q) h = absurd h
within_meets (Area r) (Frame g) h = inr (inl (some_framed g (region_corners r) (some_corners (rings_of r) r.some) h))
within_meets (Area r) (Area s) h = absurd h

-- ---- one least box

between_both : (a b : ℤ) → a ≤ℤ b → b ≤ℤ a → a ≡ b
between_both a b h k = omega (arith, sums)

pub one_least : (a b : Bounds) (cs : List Point) → IsLeastBounds a cs → IsLeastBounds b cs → a ≡ b
one_least a b cs h k =
    let f = h.least b k.holds in
    let g = k.least a h.holds in
    same_bounds a b (between_both _ _ g.0.0 f.0.0) (between_both _ _ g.1.0 f.1.0) (between_both _ _ f.0.1 g.0.1) (between_both _ _ f.1.1 g.1.1)

-- ---- one fault
pub one_crossing : (edges : List Edge) (i j k l : ℕ) → IsFirstCrossing edges i j → IsFirstCrossing edges k l → (k ≡ i) × (l ≡ j)
one_crossing edges i j k l f g = ⊎_elim
    (λ d. absurd (g.first i j f.ordered f.within (inl d) f.cross))
    (λ d. ⊎_elim
    (λ e. absurd (f.first k l g.ordered g.within (inl e) g.cross))
    (λ e. let same : k ≡ i = omega arith in
    ⊎_elim (λ m. absurd (g.first i j f.ordered f.within (inr (sym same, m)) f.cross))
    (λ m. ⊎_elim (λ n. absurd (f.first k l g.ordered g.within (inr (same, n)) g.cross)) (λ n. (same, omega arith)) (cases_lt l j)) (cases_lt j l))
    (cases_lt k i))
    (cases_lt i k)

pub one_fault : (corners : List Point) (fault other : RingFault) → IsRingFault corners fault → IsRingFault corners other → other ≡ fault
one_fault corners TooFew TooFew h k = refl
one_fault corners TooFew TooMany h k = absurd (omega arith)
one_fault corners TooFew Flat h k = let n = k.0 in absurd (omega arith)
one_fault corners TooFew (Crosses i j) h k = let n = k.0 in absurd (omega arith)
one_fault corners TooMany TooFew h k = absurd (omega arith)
one_fault corners TooMany TooMany h k = refl
one_fault corners TooMany Flat h k = let n = k.0 in absurd (omega arith)
one_fault corners TooMany (Crosses i j) h k = let n = k.0 in absurd (omega arith)
one_fault corners Flat TooFew h k = let n = h.0 in absurd (omega arith)
one_fault corners Flat TooMany h k = let n = h.0 in absurd (omega arith)
one_fault corners Flat Flat h k = refl
one_fault corners Flat (Crosses i j) h k = absurd (k.1 h.1)
one_fault corners (Crosses i j) TooFew h k = let n = h.0 in absurd (omega arith)
one_fault corners (Crosses i j) TooMany h k = let n = h.0 in absurd (omega arith)
one_fault corners (Crosses i j) Flat h k = absurd (h.1 k.1)
one_fault corners (Crosses i j) (Crosses k l) f g = let e = one_crossing (edges_of corners) i j k l f.2 g.2 in ap₂ Crosses e.0 e.1

pub one_outside : (rings : List Ring) (i k : ℕ) → IsFirstOutside rings i → IsFirstOutside rings k → k ≡ i
one_outside rings i k f g = ⊎_elim
    (λ d. absurd (g.first i d f.outside))
    (λ d. ⊎_elim (λ e. absurd (f.first k e g.outside)) (λ e. omega arith) (cases_lt k i))
    (cases_lt i k)

are_many : (rings : List Ring) → AreFew rings → ¬ (IsRegionFault rings region.TooMany)
are_many rings h k = ⊎_elim (λ l. absurd (omega arith)) (λ l. absurd (omega arith)) k

are_none : (rings : List Ring) → length rings ≡ 0 → AreFew rings
are_none [] h = (omega arith, omega arith)
are_none (r ∷ rs) h = absurd (omega arith)

pub one_region_fault : (rings : List Ring) (fault other : RegionFault) → IsRegionFault rings fault → IsRegionFault rings other → other ≡ fault
one_region_fault rings region.NoRing region.NoRing h k = refl
one_region_fault rings region.NoRing region.TooMany h k = absurd (are_many rings (are_none rings h) k)
one_region_fault rings region.NoRing (region.Outside i) h k = let w = k.1.within in absurd (omega arith)
one_region_fault rings region.TooMany region.NoRing h k = absurd (are_many rings (are_none rings k) h)
one_region_fault rings region.TooMany region.TooMany h k = refl
one_region_fault rings region.TooMany (region.Outside i) h k = absurd (are_many rings k.0 h)
one_region_fault rings (region.Outside i) region.NoRing h k = let w = h.1.within in absurd (omega arith)
one_region_fault rings (region.Outside i) region.TooMany h k = absurd (are_many rings h.0 k)
one_region_fault rings (region.Outside i) (region.Outside j) h k = ap region.Outside (one_outside rings i j h.1 k.1)
