-- Points inside holes.
use Rattle.std.proofs.Common.{◌≡◌, ◌%◌, Bool, true, false, if◌then◌else◌, inl, inr, ⊎_elim, List, [], ◌∷◌, ◌++◌, refl, sym, ◌∙◌, arith}
use Rattle.std.specs.List.{AllByRecursion}
use Rattle.std.proofs.lemmas.Bool.{false≢true}
use Rattle.std.proofs.lemmas.List.Elements.{recursion_from_All}
use Rattle.cad_shape.specs.declared.point.Point.{Point}
use Rattle.cad_shape.specs.declared.ring.Ring.{Ring}
use Rattle.cad_shape.specs.Edges.{Edge, AnyOf, edges_of}
use Rattle.cad_shape.specs.Insides.{rings_around, IsInsideRing, IsInNone}
use Rattle.cad_shape.specs.Polygons.{rings_edges}
use Rattle.cad_shape.specs.Regions.{IsOnEdge, IsOnSome, crossings, IsInRegion}
use Rattle.cad_shape.specs.Rings.{corners_of}
use Rattle.cad_shape.specs.Tests.{is_in_region}
use Rattle.cad_shape.proofs.LocationLemmas.{not_odd}
use Rattle.cad_shape.proofs.TestLemmas.{region}
use Rattle.cad_shape.proofs.Walks.{any_split, any_before, any_after, crossings-append}

-- a point on no edge is in a region where the count is odd
pub odd_inside : (t : Point) (es : List Edge) → IsInRegion t es → ¬ (IsOnSome t es) → crossings t es % 2 ≡ 1
odd_inside t es (inl h) n = absurd (n h)
odd_inside t es (inr h) n = h

pub on_ring : (t : Point) (rings : List Ring) → AnyOf (λ (r : Ring). IsOnSome t (edges_of (corners_of r))) rings → IsOnSome t (rings_edges rings)
on_ring t [] h = absurd h
on_ring t (r ∷ rs) (inl h) = any_before (λ (e : Edge). IsOnEdge t e.from e.to) (edges_of (corners_of r)) (rings_edges rs) h
on_ring t (r ∷ rs) (inr h) = any_after (λ (e : Edge). IsOnEdge t e.from e.to) (edges_of (corners_of r)) (rings_edges rs) (on_ring t rs h)

-- ---- rings that do not have the point count an even number of crossings, and none has it on an edge
OutOf : Point → List Ring → Type 0
OutOf t rings = AllByRecursion (λ (r : Ring). ¬ (IsInRegion t (edges_of (corners_of r)))) rings

even_crossings : (t : Point) (rings : List Ring) → OutOf t rings → crossings t (rings_edges rings) % 2 ≡ 0
unfolding OutOf
even_crossings t [] h = omega arith
even_crossings t (r ∷ rs) h =
    let e = crossings-append t (edges_of (corners_of r)) (rings_edges rs) in
    let f = even_crossings t rs h.1 in
    let g = not_odd (crossings t (edges_of (corners_of r))) (λ k. h.0 (inr k)) in
    omega (arith, e, f, g)

off_edges : (t : Point) (rings : List Ring) → OutOf t rings → ¬ (IsOnSome t (rings_edges rings))
unfolding OutOf
off_edges t [] h k = absurd k
off_edges t (r ∷ rs) h k = ⊎_elim (λ m. h.0 (inl m)) (λ m. off_edges t rs h.1 m) (any_split (λ (e : Edge). IsOnEdge t e.from e.to) (edges_of (corners_of r)) (rings_edges rs) k)

-- ---- a hole, and rings that do not have the point, before and after it
hole_odd : (t : Point) (before : List Ring) (hole : Ring) (after : List Ring) → IsInsideRing t hole → OutOf t before → OutOf t after → crossings t (rings_edges (before ++ hole ∷ after)) % 2 ≡ 1
unfolding OutOf
hole_odd t [] hole after h b a =
    let e = crossings-append t (edges_of (corners_of hole)) (rings_edges after) in
    let f = even_crossings t after a in
    let g = odd_inside t (edges_of (corners_of hole)) h.0 h.1 in
    omega (arith, e, f, g)
hole_odd t (r ∷ rs) hole after h b a =
    let e = crossings-append t (edges_of (corners_of r)) (rings_edges (rs ++ hole ∷ after)) in
    let f = hole_odd t rs hole after h b.1 a in
    let g = not_odd (crossings t (edges_of (corners_of r))) (λ k. b.0 (inr k)) in
    omega (arith, e, f, g)

hole_off : (t : Point) (before : List Ring) (hole : Ring) (after : List Ring) → IsInsideRing t hole → OutOf t before → OutOf t after → ¬ (IsOnSome t (rings_edges (before ++ hole ∷ after)))
unfolding OutOf
hole_off t [] hole after h b a k = ⊎_elim (λ m. h.1 m) (λ m. off_edges t after a m) (any_split (λ (e : Edge). IsOnEdge t e.from e.to) (edges_of (corners_of hole)) (rings_edges after) k)
hole_off t (r ∷ rs) hole after h b a k =
    ⊎_elim (λ m. b.0 (inl m)) (λ m. hole_off t rs hole after h b.1 a m) (any_split (λ (e : Edge). IsOnEdge t e.from e.to) (edges_of (corners_of r)) (rings_edges (rs ++ hole ∷ after)) k)

pub left_out : (t : Point) (outer hole : Ring) (before after : List Ring) → IsInsideRing t outer → IsInsideRing t hole → IsInNone t before → IsInNone t after → ¬ (IsInRegion t (rings_edges (outer ∷ (before ++ hole ∷ after))))
unfolding OutOf
left_out t outer hole before after o h b a k =
    let P = λ (r : Ring). ¬ (IsInRegion t (edges_of (corners_of r))) in
    let bs = recursion_from_All P before b in
    let cs = recursion_from_All P after a in
    let e = crossings-append t (edges_of (corners_of outer)) (rings_edges (before ++ hole ∷ after)) in
    let f = hole_odd t before hole after h bs cs in
    let g = odd_inside t (edges_of (corners_of outer)) o.0 o.1 in
    ⊎_elim
    (λ m. ⊎_elim (λ l. o.1 l) (λ l. hole_off t before hole after h bs cs l) (any_split (λ (d : Edge). IsOnEdge t d.from d.to) (edges_of (corners_of outer)) (rings_edges (before ++ hole ∷ after)) m))
    (λ m. absurd (omega (arith, e, f, g)))
    k

-- ---- rings round a point
counted_alike : (t : Point) (es : List Edge) (b : Bool) → is_in_region t es ≡ b → ¬ (IsOnSome t es) → crossings t es % 2 ≡ (if b then 1 else 0)
counted_alike t es true e n = odd_inside t es ((region t es).0 e) n
counted_alike t es false e n = not_odd (crossings t es) (λ k. false≢true (sym e ∙ (region t es).1 (inr k)))

pub same_parity : (t : Point) (rings : List Ring) → ¬ (IsOnSome t (rings_edges rings)) → crossings t (rings_edges rings) % 2 ≡ rings_around t rings % 2
same_parity t [] n = refl
same_parity t (r ∷ rs) n =
    let es = edges_of (corners_of r) in
    let P = λ (d : Edge). IsOnEdge t d.from d.to in
    let e = crossings-append t es (rings_edges rs) in
    let f = same_parity t rs (λ k. n (any_after P es (rings_edges rs) k)) in
    let g = counted_alike t es (is_in_region t es) refl (λ k. n (any_before P es (rings_edges rs) k)) in
    omega (arith, e, f, g)
