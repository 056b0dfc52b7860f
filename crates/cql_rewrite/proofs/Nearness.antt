-- A shape that meets another, or lies within it, has bounds that touch a cell which the other's bounds touch.
use Rattle.std.proofs.Common.{◌≡◌, ◌∙◌, ◌≤◌, ◌<◌, ap, refl, sym, subst, Bool, true, false, List, [], ◌∷◌, ◌++◌, length, get_or, if◌then◌else◌, Some, None, arith}
use Rattle.std.specs.Prelude.{ℤ, ◌≤ℤ◌}
use Rattle.std.specs.Int.{int_min, int_max}
use Rattle.std.proofs.lemmas.Int.{ints, clamps}
use Rattle.std.proofs.lemmas.List.Elements.{All-get_or, All-tail, All-cons}
use Rattle.std.proofs.lemmas.Bool.{or_right}
use Rattle.cad_shape.specs.declared.point.Point.{Point}
use Rattle.cad_shape.specs.declared.boxes.Bounds.{Bounds}
use Rattle.cad_shape.specs.declared.ring.Ring.{Ring}
use Rattle.cad_shape.specs.declared.shape.Shape.{Shape}
use Rattle.cad_shape.specs.declared.shape.Shape.TheVariants.{Spot, Frame, Area}
use Rattle.cad_shape.specs.Boxes.{IsExtent}
use Rattle.cad_shape.specs.Coordinates.{IsCoordinate}
use Rattle.cad_shape.specs.Frames.{Covers, IsHeld, IsLeastBounds, Overlap}
use Rattle.cad_shape.specs.Laws.{BoundsOverlap, MeetingIsSymmetric, TestsTell, WithinMeets}
use Rattle.cad_shape.specs.Polygons.{rings_corners}
use Rattle.cad_shape.specs.RegionRings.{region_corners}
use Rattle.cad_shape.specs.Shapes.{Meets, is_judged, shape_corners}
use Rattle.cad_shape.specs.Tests.{shape_within, within}
use Rattle.cad_grid.specs.Blocks.{block_around, block_of, cell_number, is_wide, share_a_cell}
use Rattle.cad_grid.specs.lemmas.CornerLemmas.{same_block}
use Rattle.cad_grid.specs.Laws.{Reaches, SharedCellsAreTouched}
use Rattle.cad_grid.specs.Near.{block_in, is_candidate}
use Rattle.cad_feature.specs.Features.{datum_at}
use Rattle.cad_feature.specs.Values.{Datum, null, a_text, a_whole, a_flag, a_day, a_span, a_spot, an_area}
use Rattle.cql_lexer.specs.declared.token.SpatialRelation.{SpatialRelation}
use Rattle.cql_lexer.specs.declared.token.SpatialRelation.TheVariants as relation
use Rattle.cql_types.specs.declared.filter.ShapeTerm.TheVariants as place
use Rattle.cql_meaning.specs.lemmas.NodeLemmas.{sides_Spatial}
use Rattle.cql_meaning.specs.Sides.{spatial, sides_of}
use Rattle.cql_meaning.specs.Values.{both, shape_in}
use Rattle.cql_rewrite.specs.Costs.{is_near_by}
use Rattle.cql_rewrite.specs.Laws.{SpatialIsNear}

-- ---- each shape has a least box

extent : (a b c : ℤ) → IsExtent a b → IsCoordinate c → IsExtent (int_min a c) (int_max b c)
extent a b c e h = ((omega (arith, ints, clamps), omega (arith, ints, clamps)), (omega (arith, ints, clamps), omega (arith, ints, clamps)), omega (arith, ints, clamps))

stretched : Bounds → Point → Bounds
stretched b p = record {
  x_min = int_min b.x_min p.x;
  y_min = int_min b.y_min p.y;
  x_max = int_max b.x_max p.x;
  y_max = int_max b.y_max p.y;
  width = extent b.x_min b.x_max p.x b.width p.x_in_range;
  height = extent b.y_min b.y_max p.y b.height p.y_in_range;
}

keeps : (b : Bounds) (p q : Point) → IsHeld b q → IsHeld (stretched b p) q
unfolding stretched
keeps b p q h = ((omega (arith, ints, clamps), omega (arith, ints, clamps)), (omega (arith, ints, clamps), omega (arith, ints, clamps)))

holds : (b : Bounds) (p : Point) → IsHeld (stretched b p) p
unfolding stretched
holds b p = ((omega (arith, ints, clamps), omega (arith, ints, clamps)), (omega (arith, ints, clamps), omega (arith, ints, clamps)))

covers : (other b : Bounds) (p : Point) → Covers other b → IsHeld other p → Covers other (stretched b p)
unfolding stretched
covers other b p c h = ((omega (arith, ints, clamps), omega (arith, ints, clamps)), (omega (arith, ints, clamps), omega (arith, ints, clamps)))

-- the box of one point
at : Point → Bounds
at p = record { x_min = p.x; y_min = p.y; x_max = p.x; y_max = p.y; width = (p.x_in_range, p.x_in_range, omega (arith, ints)); height = (p.y_in_range, p.y_in_range, omega (arith, ints)) }

abbrev HasLeast : List Point → Type 0
HasLeast points = (b : Bounds) × IsLeastBounds b points

one_least : (p : Point) → IsLeastBounds (at p) (p ∷ [])
unfolding at
one_least p = record {
  holds = All-cons (IsHeld (at p)) p [] ((omega (arith, ints), omega (arith, ints)), (omega (arith, ints), omega (arith, ints))) (λ k d h. absurd (omega arith));
  least = λ other h. let k : IsHeld other p = All-get_or (IsHeld other) (p ∷ []) 0 p (omega arith) h in ((k.0.0, k.0.1), (k.1.0, k.1.1));
}

more_least : (p : Point) (ps : List Point) (b : Bounds) → IsLeastBounds b ps → IsLeastBounds (stretched b p) (p ∷ ps)
more_least p ps b l = record {
  holds = All-cons (IsHeld (stretched b p)) p ps (holds b p) (λ k d h. keeps b p (get_or ps k d) (l.holds k d h));
  least = λ other h. covers other b p (l.least other (All-tail (IsHeld other) p ps h)) (All-get_or (IsHeld other) (p ∷ ps) 0 p (omega arith) h);
}

least_box : (p : Point) (ps : List Point) → HasLeast (p ∷ ps)
least_box p [] = (at p, one_least p)
least_box p (q ∷ ps) = let h = least_box q ps in (stretched h.0 p, more_least p (q ∷ ps) h.0 h.1)

abbrev HasFirst : List Point → Type 0
HasFirst points = (p : Point) × (ps : List Point) × (points ≡ p ∷ ps)

first_corner : (cs rest : List Point) → 3 ≤ length cs → HasFirst (cs ++ rest)
first_corner [] rest h = absurd (omega arith)
first_corner (c ∷ cs) rest h = (c, cs ++ rest, refl)

some_corner : (rings : List Ring) → 0 < length rings → HasFirst (rings_corners rings)
some_corner [] h = absurd (omega arith)
some_corner (r ∷ rs) h = first_corner r.corners (rings_corners rs) r.enough

from_first : (points : List Point) → HasFirst points → HasLeast points
from_first points f = subst HasLeast (sym f.2) (least_box f.0 f.1)

shape_box : (s : Shape) → HasLeast (shape_corners s)
shape_box (Spot p) = least_box p []
shape_box (Frame b) = least_box _ _
shape_box (Area region) = from_first (region_corners region) (some_corner region.rings region.some)

-- ---- boxes that share a point share a cell

-- what the shapes' crates say of shapes and of cells
pub record Placed : Type 0 where
  pub overlap : BoundsOverlap
  pub symmetric : MeetingIsSymmetric
  pub within : WithinMeets
  pub tests : TestsTell
  pub cells : SharedCellsAreTouched

shared : (a b c d : ℤ) → a ≤ℤ b → c ≤ℤ d → a ≤ℤ d → c ≤ℤ b → (n : ℤ) × (Reaches a b n × Reaches c d n)
shared a b c d up over h k =
    let x : ℤ = int_max a c in
    (cell_number x, ((x, omega (arith, ints, clamps), omega (arith, ints, clamps), refl), (x, omega (arith, ints, clamps), omega (arith, ints, clamps), refl)))

overlap_shares : SharedCellsAreTouched → (f g : Bounds) → Overlap f g → share_a_cell (block_of f) (block_of g) ≡ true
overlap_shares cells f g o =
    let x = shared f.x_min f.x_max g.x_min g.x_max f.width.2 g.width.2 o.0.0 o.0.1 in
    let y = shared f.y_min f.y_max g.y_min g.y_max f.height.2 g.height.2 o.1.0 o.1.1 in
    (cells f g).1 (x.0, y.0, ((x.1.0, y.1.0), (x.1.1, y.1.1)))

meets_shares : Placed → (a b : Shape) → Meets a b → share_a_cell (block_around (shape_corners a)) (block_around (shape_corners b)) ≡ true
meets_shares t a b m =
    let f = shape_box a in
    let g = shape_box b in
    rw (same_block f.0 (shape_corners a) f.1, same_block g.0 (shape_corners b) g.1) (overlap_shares t.cells f.0 g.0 (t.overlap a b f.0 g.0 f.1 g.1 m))

-- ---- what is true of a shape and another

within_told : (a b : Shape) (j w : Bool) → (sides_of (if j then (Some w) else None)).yes ≡ true → w ≡ true
within_told a b true true h = refl
within_told a b true false h = h
within_told a b false w h = absurd cc

within_meets : Placed → (a b : Shape) → (sides_of (within a b)).yes ≡ true → Meets a b
within_meets t a b h = t.within a b ((t.tests a b).1.0 (within_told a b (is_judged a b) (shape_within a b) h))

spatial_meets : Placed → (by : SpatialRelation) (a b : Shape) → is_near_by by ≡ true → (sides_of (spatial by a b)).yes ≡ true → Meets a b
spatial_meets t relation.Intersects a b n h = (t.tests a b).0.0 h
spatial_meets t relation.Disjoint a b n h = absurd cc
spatial_meets t relation.Within a b n h = within_meets t a b h
spatial_meets t relation.Contains a b n h = t.symmetric b a (within_meets t b a h)

shape_near : Placed → (a s : Shape) → Meets a s → is_candidate (block_around (shape_corners s)) (Some (block_around (shape_corners a))) ≡ true
shape_near t a s m = or_right (is_wide (block_around (shape_corners a))) _ (meets_shares t a s m)

-- by the value of the feature, first or second
datum_near : Placed → (by : SpatialRelation) (d : Datum) (s : Shape) → is_near_by by ≡ true → (sides_of (both (spatial by) (shape_in d) (Some s))).yes ≡ true → is_candidate (block_around (shape_corners s)) (block_in d) ≡ true
datum_near t by null s n h = absurd cc
datum_near t by (a_text text) s n h = absurd cc
datum_near t by (a_whole z) s n h = absurd cc
datum_near t by (a_flag b) s n h = absurd cc
datum_near t by (a_day day) s n h = absurd cc
datum_near t by (a_span days) s n h = absurd cc
datum_near t by (a_spot p) s n h = shape_near t (Spot p) s (spatial_meets t by (Spot p) s n h)
datum_near t by (an_area region) s n h = shape_near t (Area region) s (spatial_meets t by (Area region) s n h)

datum_near_second : Placed → (by : SpatialRelation) (d : Datum) (s : Shape) → is_near_by by ≡ true → (sides_of (both (spatial by) (Some s) (shape_in d))).yes ≡ true → is_candidate (block_around (shape_corners s)) (block_in d) ≡ true
datum_near_second t by null s n h = absurd cc
datum_near_second t by (a_text text) s n h = absurd cc
datum_near_second t by (a_whole z) s n h = absurd cc
datum_near_second t by (a_flag b) s n h = absurd cc
datum_near_second t by (a_day day) s n h = absurd cc
datum_near_second t by (a_span days) s n h = absurd cc
datum_near_second t by (a_spot p) s n h = shape_near t (Spot p) s (t.symmetric s (Spot p) (spatial_meets t by s (Spot p) n h))
datum_near_second t by (an_area region) s n h = shape_near t (Area region) s (t.symmetric s (Area region) (spatial_meets t by s (Area region) n h))

pub spatial_near : Placed → SpatialIsNear
spatial_near t = λ x by i s n. (
  λ h. datum_near t by (datum_at x i) s n (sym (ap (λ k. k.yes) (sides_Spatial x by (place.Property i) (place.Constant s))) ∙ h),
  λ h. datum_near_second t by (datum_at x i) s n (sym (ap (λ k. k.yes) (sides_Spatial x by (place.Constant s) (place.Property i))) ∙ h),
)
