-- The numbers of a literal, and what they are those of.
use Rattle.std.proofs.Common.{◌≡◌, refl, ap, ap₂, sym, subst, ◌∙◌, ℕ, ℤ, List, [], ◌∷◌, ◌++◌, ◌<◌, ◌+◌, length, get_or, drop, drop-cons, add-one, Option, Some, None, Result, Ok, Err}
use Rattle.std.specs.Prelude.{string_bytes}
use Rattle.cad_schema.specs.Attributes.{Named}
use Rattle.cad_shape.specs.declared.point.Point.{Point}
use Rattle.cad_shape.specs.Coordinates.{IsCoordinate}
use Rattle.cad_shape.specs.Outlines.{IsRing}
use Rattle.cad_shape.specs.declared.ring.Ring.{Ring}
use Rattle.cad_shape.specs.Rings.{corners_of, IsRingFault, no_ring as none_round, same_ring}
use Rattle.cad_shape.specs.declared.polygon.Region.{Region}
use Rattle.cad_shape.specs.Polygons.{IsRegion}
use Rattle.cad_shape.specs.RegionRings.{rings_of as region_rings}
use Rattle.cad_shape.specs.declared.ring.RingFault.{RingFault}
use Rattle.std.specs.declared.alloc.Global.{Global}
use Rattle.std.specs.declared.vec.Vec.{Vec}
use Rattle.std.specs.Prelude.{MatchResult, MatchOption}
use Rattle.std.specs.Result.{result_ok}
use Rattle.cql_tree.specs.declared.expression.Number.{Number}
use Rattle.cql_tree.specs.declared.expression.Corner.{Corner}
use Rattle.cql_tree.specs.declared.expression.Ring.{Ring as Line}
use Rattle.cql_tree.specs.Syntax.{Syntax, Parts, none, part, parts_of, node, Op, ring_op, point_op, bbox_op, polygon_op}
use Rattle.cql_tree.specs.Views.{number_of, numbers_of, ring_of, rings_of}
use Rattle.cql_types.specs.declared.fault.Misuse.{Misuse}
use Rattle.cql_types.specs.declared.fault.Fault.{Fault}
use Rattle.cql_types.specs.declared.fault.TypeFault.{TypeFault}
use Rattle.cql_types.specs.declared.fault.TypeFault.TheVariants.{Memory, At}
use Rattle.cql_types.specs.declared.filter.ShapeTerm.TheVariants as place
use Rattle.cql_types.specs.declared.judged.Node.TheVariants as n
use Rattle.cad_shape.specs.declared.boxes.Bounds.{Bounds}
use Rattle.cad_shape.specs.declared.shape.Shape.TheVariants as shape
use Rattle.cad_shape.specs.lemmas.SameLemmas.{same_point}
use Rattle.cql_types.specs.Means.{Draws, point, box, region}
use Rattle.cql_types.proofs.Fitting.{numbers_have}
use Rattle.std.specs.List.{slice_get}
use Rattle.cql_types.specs.declared.literal.Position.{Position}
use Rattle.cql_types.specs.Kinds.{Mark, Have, leaf_has, node_has, no_more, one_more, is_line, kind_of_number, first_not, unsound}
use Rattle.cql_types.specs.Numbers.{written}
use Rattle.cql_types.specs.Literals.{AreNumbers, no_number, one_number, AreRings, no_ring, one_ring, IsPoint, IsBox, coordinates_of, closed, outline_of}
use Rattle.cql_types.specs.Contract.{ForFault, IsFirst, IsFirstIn, leaf_first, unsound_first, here_first, later_first, inside_first}
use Rattle.cql_types.specs.inner.Reading.{IsFirstNumber, positions_of, lines_of, AreLines, no_line, one_line, outlines_of, IsRegionAlong, IsFrame}

same_cons : {z w : ℤ} {zs ws : List ℤ} → z ≡ w → zs ≡ ws → z ∷ zs ≡ w ∷ ws
same_cons e f = cc

same_value : {r : Result ℤ Misuse} {x y : ℤ} → r ≡ Ok x → r ≡ Ok y → x ≡ y
same_value e f = cc

-- the parts are of one list of numbers
pub numbers_once : {ps : Parts} {zs ws : List ℤ} → AreNumbers ps zs → AreNumbers ps ws → zs ≡ ws
numbers_once no_number no_number = refl
numbers_once (one_number e r) (one_number f q) = same_cons (same_value e f) (numbers_once r q)

-- a number that is none
pub number_wrong : (m : Number) (f : Fault) → f.place ≡ m.place → written m.is_negative (string_bytes m.digits) ≡ Err f.cause → (s : List Named) → IsFirst s (number_of m) f
number_wrong m f e w s =
    subst (λ p. IsFirst s (number_of m) (record { place = p; cause = f.cause })) (sym e) (leaf_first (ap kind_of_number w))

-- one corner more
pub numbers_more : (c : Corner) (cs : List Corner) {x y : ℤ} {zs : List ℤ} → AreNumbers (parts_of (numbers_of (c ∷ []))) (x ∷ y ∷ []) → AreNumbers (parts_of (numbers_of cs)) zs →
    AreNumbers (parts_of (numbers_of (c ∷ cs))) (x ∷ y ∷ zs)
numbers_more c cs (one_number a (one_number b no_number)) r = one_number a (one_number b r)

-- a fault of one corner is one of it and more
corner_fault : {s : List Named} {t u : Syntax} {ts : Parts} {f : Fault} → IsFirstIn s (part t (part u none)) f → IsFirstIn s (part t (part u ts)) f
corner_fault (here_first h) = here_first h
corner_fault (later_first k (here_first h)) = later_first k (here_first h)
corner_fault (later_first k (later_first l i)) = elim i [ ]

pub fault_of_corner : (c : Corner) (cs : List Corner) (f : Fault) → IsFirstNumber (parts_of (numbers_of (c ∷ []))) f → IsFirstNumber (parts_of (numbers_of (c ∷ cs))) f
fault_of_corner c cs f h s = corner_fault (h s)

pub fault_after : (c : Corner) (cs : List Corner) {x y : ℤ} (f : Fault) → AreNumbers (parts_of (numbers_of (c ∷ []))) (x ∷ y ∷ []) → IsFirstNumber (parts_of (numbers_of cs)) f →
    IsFirstNumber (parts_of (numbers_of (c ∷ cs))) f
fault_after c cs f (one_number a (one_number b no_number)) h s =
    later_first (leaf_has (ap kind_of_number a)) (later_first (leaf_has (ap kind_of_number b)) (h s))

-- ---- a position

abbrev pub IsNumberFault : Number → Fault → Type 0
IsNumberFault m f = (f.place ≡ m.place) × (written m.is_negative (string_bytes m.digits) ≡ Err f.cause)

pub x_wrong : (c : Corner) (e : TypeFault) → ForFault (IsNumberFault c.x) e → ForFault (IsFirstNumber (parts_of (numbers_of (c ∷ [])))) e
x_wrong c Memory h = tt
x_wrong c (At f) h = λ s. here_first (number_wrong c.x f h.0 h.1 s)

pub y_wrong : (c : Corner) {x : ℤ} (e : TypeFault) → written c.x.is_negative (string_bytes c.x.digits) ≡ Ok x → ForFault (IsNumberFault c.y) e → ForFault (IsFirstNumber (parts_of (numbers_of (c ∷ [])))) e
y_wrong c Memory k h = tt
y_wrong c (At f) k h = λ s. later_first (leaf_has (ap kind_of_number k)) (here_first (number_wrong c.y f h.0 h.1 s))

pub position_read : (c : Corner) {x y : ℤ} → written c.x.is_negative (string_bytes c.x.digits) ≡ Ok x → written c.y.is_negative (string_bytes c.y.digits) ≡ Ok y →
    AreNumbers (parts_of (numbers_of (c ∷ []))) (x ∷ y ∷ [])
position_read c e f = one_number e (one_number f no_number)

-- ---- faults of literals

pub number_inside : (s : List Named) (op : Op) (ps : Parts) (e : TypeFault) → ForFault (IsFirstNumber ps) e → ForFault (IsFirst s (node op ps)) e
number_inside s op ps Memory h = tt
number_inside s op ps (At f) h = inside_first (h s)

pub after_corner : (c : Corner) (cs : List Corner) {x y : ℤ} (e : TypeFault) → AreNumbers (parts_of (numbers_of (c ∷ []))) (x ∷ y ∷ []) → ForFault (IsFirstNumber (parts_of (numbers_of cs))) e →
    ForFault (IsFirstNumber (parts_of (numbers_of (c ∷ cs)))) e
after_corner c cs Memory h k = tt
after_corner c cs (At f) h k = fault_after c cs f h k

pub of_corner : (c : Corner) (cs : List Corner) (e : TypeFault) → ForFault (IsFirstNumber (parts_of (numbers_of (c ∷ [])))) e → ForFault (IsFirstNumber (parts_of (numbers_of (c ∷ cs)))) e
of_corner c cs Memory h = tt
of_corner c cs (At f) h = fault_of_corner c cs f h

pub two_equal : {x y z w : ℤ} → x ∷ y ∷ [] ≡ z ∷ w ∷ [] → (x ≡ z) × (y ≡ w)
two_equal e = (cc, cc)

four_equal : {a b c d a' b' c' d' : ℤ} → a ∷ b ∷ c ∷ d ∷ [] ≡ a' ∷ b' ∷ c' ∷ d' ∷ [] → ((a ≡ a') × (b ≡ b')) × ((c ≡ c') × (d ≡ d'))
four_equal e = ((cc, cc), (cc, cc))

no_point : {ps : Parts} {x y : ℤ} → AreNumbers ps (x ∷ y ∷ []) → ¬ (IsCoordinate x × IsCoordinate y) → ¬ IsPoint ps
no_point h none_there p =
    let same = two_equal (numbers_once p.numbers h) in
    none_there (rw (← same.0) p.x_in_range, rw (← same.1) p.y_in_range)

pub point_unsound : {s : List Named} (p : ℕ) {ps : Parts} {x y : ℤ} → AreNumbers ps (x ∷ y ∷ []) → ¬ (IsCoordinate x × IsCoordinate y) → IsFirst s (node (point_op p) ps) (unsound (point_op p) ps)
point_unsound p h denied = let have = numbers_have h in unsound_first have.1 have.2 (no_point h denied)

pub point_drawn : {s : List Named} {p : ℕ} {ps : Parts} {x y : ℤ} (at : Point) → AreNumbers ps (x ∷ y ∷ []) → at.x ≡ x → at.y ≡ y → Draws s (point_op p) ps (n.Spot (place.Constant (shape.Spot at)))
point_drawn at h e f = point at (rw (e, f) h)

no_box : {ps : Parts} {low high : Position} → AreNumbers ps (low.x ∷ low.y ∷ high.x ∷ high.y ∷ []) → ¬ IsFrame low high → ¬ IsBox ps
no_box h denied b =
    let same = four_equal (numbers_once b.numbers h) in
    denied (record {
      low_in_range = (rw (← same.0.0) b.low.0, rw (← same.0.1) b.low.1);
      high_in_range = (rw (← same.1.0) b.high.0, rw (← same.1.1) b.high.1);
      width = rw (← same.0.0, ← same.1.0) b.width;
      height = rw (← same.0.1, ← same.1.1) b.height;
    })

pub box_unsound : {s : List Named} (p : ℕ) {ps : Parts} {low high : Position} → AreNumbers ps (low.x ∷ low.y ∷ high.x ∷ high.y ∷ []) → ¬ IsFrame low high → IsFirst s (node (bbox_op p) ps) (unsound (bbox_op p) ps)
box_unsound p h denied = let have = numbers_have h in unsound_first have.1 have.2 (no_box h denied)

pub box_drawn : {s : List Named} {p : ℕ} {ps : Parts} {low high : Position} (b : Bounds) → AreNumbers ps (low.x ∷ low.y ∷ high.x ∷ high.y ∷ []) → IsFrame low high →
    b.x_min ≡ low.x → b.y_min ≡ low.y → b.x_max ≡ high.x → b.y_max ≡ high.y → Draws s (bbox_op p) ps (n.Frame (place.Constant (shape.Frame b)))
box_drawn b h k e f g i = box b (rw (e, f, g, i) h) (rw (e, g) k.width) (rw (f, i) k.height)

-- ---- lines

pub positions_more : (ps : List Position) (p : Position) (zs : List ℤ) → positions_of (ps ++ p ∷ []) ++ zs ≡ positions_of ps ++ (p.x ∷ p.y ∷ zs)
positions_more [] p zs = refl
positions_more (q ∷ qs) p zs = ap (λ ws. q.x ∷ q.y ∷ ws) (positions_more qs p zs)

-- ---- points

first_two : {a b c d : ℤ} {zs ws : List ℤ} → a ∷ b ∷ zs ≡ c ∷ d ∷ ws → (a ≡ c) × (b ≡ d) × (zs ≡ ws)
first_two e = (cc, cc, cc)

same_points : {p q : Point} {ps qs : List Point} → p ≡ q → ps ≡ qs → p ∷ ps ≡ q ∷ qs
same_points e f = cc

pub coordinates_once : (ps qs : List Point) → coordinates_of ps ≡ coordinates_of qs → ps ≡ qs
coordinates_once [] [] e = refl
coordinates_once [] (q ∷ qs) e = absurd cc
coordinates_once (p ∷ ps) [] e = absurd cc
coordinates_once (p ∷ ps) (q ∷ qs) e = let parts = first_two e in same_points (same_point p q parts.0 parts.1) (coordinates_once ps qs parts.2)

no_end : (ys : List Point) (y : Point) → [] ≡ ys ++ y ∷ [] → ⊥
no_end [] y e = cc
no_end (x ∷ xs) y e = cc

no_more_points : {p q : Point} {ps : List Point} → p ∷ [] ≡ q ∷ ps → [] ≡ ps
no_more_points e = cc

ends_same : (xs ys : List Point) (x y : Point) → xs ++ x ∷ [] ≡ ys ++ y ∷ [] → (xs ≡ ys) × (x ≡ y)
ends_same [] [] x y e = (refl, cc)
ends_same [] (z ∷ zs) x y e = absurd (no_end zs y (no_more_points e))
ends_same (z ∷ zs) [] x y e = absurd (no_end zs x (no_more_points (sym e)))
ends_same (z ∷ zs) (w ∷ ws) x y e =
    let first : z ≡ w = cc in
    let rest : zs ++ x ∷ [] ≡ ws ++ y ∷ [] = cc in
    let same = ends_same zs ws x y rest in
    (same_points first same.0, same.1)

-- a closed line without its end is the corners, and its end the first of them
pub closed_parts : (corners rest : List Point) (last : Point) → closed corners ≡ rest ++ last ∷ [] → (corners ≡ rest) × (slice_get corners 0 ≡ Some last)
closed_parts [] rest last e = absurd (no_end rest last e)
closed_parts (p ∷ ps) rest last e = let same = ends_same (p ∷ ps) rest p last e in (same.0, ap Some same.1)

pub closed_again : (corners : List Point) (last : Point) → slice_get corners 0 ≡ Some last → closed corners ≡ corners ++ last ∷ []
closed_again [] last e = absurd cc
closed_again (p ∷ ps) last e = let same : p ≡ last = cc in ap (λ q. (p ∷ ps) ++ q ∷ []) same

-- ---- regions

lines_have : {s : List Named} {ps : Parts} {lines : List (List ℤ)} → AreLines ps lines → (ms : List Mark) × Have s ps ms × (first_not is_line ms ≡ None)
lines_have no_line = ([], no_more, refl)
lines_have (one_line numbers r) =
    let here = numbers_have numbers in
    let rest = lines_have r in
    (_, one_more (node_has here.1 here.2 tt) rest.1, rest.2)

first_line : {zs ws : List ℤ} {lines others : List (List ℤ)} → zs ∷ lines ≡ ws ∷ others → (zs ≡ ws) × (lines ≡ others)
first_line e = (cc, cc)

-- the lines of the parts are those along the rings
lines_round : {ps : Parts} {lines : List (List ℤ)} {rings : List Ring} → AreLines ps lines → AreRings ps rings → outlines_of rings ≡ lines
lines_round no_line no_ring = refl
lines_round (one_line m r) (one_ring h q) = ap₂ ◌∷◌ (numbers_once h m) (lines_round r q)

rings_round : {ps : Parts} {lines : List (List ℤ)} (rings : List Ring) → AreLines ps lines → outlines_of rings ≡ lines → AreRings ps rings
rings_round [] no_line e = no_ring
rings_round [] (one_line h r) e = absurd cc
rings_round (ring ∷ rings) no_line e = absurd cc
rings_round (ring ∷ rings) (one_line h r) e = let same = first_line e in one_ring (rw same.0 h) (rings_round rings r same.1)

-- lines along the rings of no region
pub region_unsound : {s : List Named} (p : ℕ) {ps : Parts} {lines : List (List ℤ)} → AreLines ps lines → IsRegionAlong lines None →
    IsFirst s (node (polygon_op p) ps) (unsound (polygon_op p) ps)
region_unsound p h denied =
    let have = lines_have h in
    unsound_first have.1 have.2 (λ area. denied area.rings (lines_round h area.lines) area.is_region)

pub region_drawn : {s : List Named} {p : ℕ} {ps : Parts} {lines : List (List ℤ)} (area : Region) → AreLines ps lines → IsRegionAlong lines (Some area) →
    Draws s (polygon_op p) ps (n.Area (place.Constant (shape.Area area)))
region_drawn area h e = region area (rings_round (region_rings area) h e)

closed_once : (ps qs : List Point) → closed ps ≡ closed qs → ps ≡ qs
closed_once [] [] e = refl
closed_once [] (q ∷ qs) e = absurd cc
closed_once (p ∷ ps) qs e = sym (closed_parts qs (p ∷ ps) p (sym e)).0

-- two rings along one line are one
pub outline_once : (a b : Ring) → outline_of a ≡ outline_of b → a ≡ b
outline_once a b e = same_ring a b (closed_once (corners_of a) (corners_of b) (coordinates_once (closed (corners_of a)) (closed (corners_of b)) e))

outlines_once : (rings others : List Ring) → outlines_of rings ≡ outlines_of others → rings ≡ others
outlines_once [] [] e = refl
outlines_once [] (b ∷ others) e = absurd cc
outlines_once (a ∷ rings) [] e = absurd cc
outlines_once (a ∷ rings) (b ∷ others) e =
    let same = first_line e in ap₂ ◌∷◌ (outline_once a b same.0) (outlines_once rings others same.1)

-- the region inside the rings along the lines
pub region_found : (region : Option Region) (rings : Vec Ring Global) (lines : List (List ℤ)) → outlines_of rings.items ≡ lines →
    MatchOption region (¬ IsRegion rings.items) (λ area. region_rings area ≡ rings.items) → IsRegionAlong lines region
region_found None rings lines e h = λ all g. rw (outlines_once all rings.items (g ∙ sym e)) h
region_found (Some area) rings lines e h = ap outlines_of h ∙ e

-- no ring is along one of the lines
pub rings_denied : (lines : List (List ℤ)) → ((rings : List Ring) → ¬ (outlines_of rings ≡ lines)) → IsRegionAlong lines None
rings_denied lines denied = λ rings e. absurd (denied rings e)

pub outlines_more : (rs : List Ring) (r : Ring) (lines : List (List ℤ)) → outlines_of (rs ++ r ∷ []) ++ lines ≡ outlines_of rs ++ (outline_of r ∷ lines)
outlines_more [] r lines = refl
outlines_more (q ∷ qs) r lines = ap (λ more. outline_of q ∷ more) (outlines_more qs r lines)

head_ring : (all : List Ring) {zs : List ℤ} {lines : List (List ℤ)} → outlines_of all ≡ zs ∷ lines → (ring : Ring) × (outline_of ring ≡ zs)
head_ring [] e = absurd cc
head_ring (r ∷ rs) e = (r, (first_line e).0)

-- the lines before a line are along rings, and so is it
pub is_ring_behind : (before all : List Ring) {zs : List ℤ} (lines : List (List ℤ)) → outlines_of all ≡ outlines_of before ++ (zs ∷ lines) → (ring : Ring) × (outline_of ring ≡ zs)
is_ring_behind [] all lines e = head_ring all e
is_ring_behind (r ∷ rs) [] lines e = absurd cc
is_ring_behind (r ∷ rs) (q ∷ qs) lines e = is_ring_behind rs qs lines (first_line e).1

pub lines_from : (ls : List (Vec Position Global)) (i : ℕ) (l : Vec Position Global) → i < length ls → l ≡ get_or ls i l →
    lines_of (drop i ls) ≡ positions_of l.items ∷ lines_of (drop (i + 1) ls)
lines_from ls i l within is = ap lines_of (drop-cons ls i l within) ∙ rw (add-one, ← is)

-- ---- the walk along a line

pub numbers_from : (cs : List Corner) (i : ℕ) (c : Corner) → i < length cs → c ≡ get_or cs i c →
    parts_of (numbers_of (drop i cs)) ≡ parts_of (numbers_of (c ∷ drop (i + 1) cs))
numbers_from cs i c within is = ap (λ us. parts_of (numbers_of us)) (drop-cons cs i c within) ∙ rw (add-one, ← is)

pub rings_from : (rs : List Line) (i : ℕ) (r : Line) → i < length rs → r ≡ get_or rs i r →
    parts_of (rings_of (drop i rs)) ≡ part (ring_of r) (parts_of (rings_of (drop (i + 1) rs)))
rings_from rs i r within is = ap (λ us. parts_of (rings_of us)) (drop-cons rs i r within) ∙ rw (add-one, ← is)

-- a fault of what is left is one of all
pub fault_along : {rest all : Parts} (e : TypeFault) → ((f : Fault) → IsFirstNumber rest f → IsFirstNumber all f) → ForFault (IsFirstNumber rest) e → ForFault (IsFirstNumber all) e
fault_along Memory so_far h = tt
fault_along (At f) so_far h = so_far f h

pub fault_in_ring : (ps ts : Parts) (e : TypeFault) → ForFault (IsFirstNumber ps) e → ForFault (IsFirstNumber (part (node ring_op ps) ts)) e
fault_in_ring ps ts Memory h = tt
fault_in_ring ps ts (At f) h = λ s. here_first (inside_first (h s))

pub fault_behind_ring : (ps ts : Parts) {zs : List ℤ} (f : Fault) → AreNumbers ps zs → IsFirstNumber ts f → IsFirstNumber (part (node ring_op ps) ts) f
fault_behind_ring ps ts f h k = λ s. let have = numbers_have h in later_first (node_has have.1 have.2 tt) (k s)

pub coordinates_more : (ps : List Point) (p : Point) (zs : List ℤ) → coordinates_of (ps ++ p ∷ []) ++ zs ≡ coordinates_of ps ++ (p.x ∷ p.y ∷ zs)
coordinates_more [] p zs = refl
coordinates_more (q ∷ qs) p zs = ap (λ ws. q.x ∷ q.y ∷ ws) (coordinates_more qs p zs)

pub positions_at : (ps : List Position) (i : ℕ) (p : Position) → i < length ps →
    positions_of (drop i ps) ≡ (get_or ps i p).x ∷ (get_or ps i p).y ∷ positions_of (drop (i + 1) ps)
positions_at ps i p within = ap positions_of (drop-cons ps i p within) ∙ rw add-one

head_coordinates : (all : List Point) {x y : ℤ} {zs : List ℤ} → coordinates_of all ≡ x ∷ y ∷ zs → IsCoordinate x × IsCoordinate y
head_coordinates [] e = absurd cc
head_coordinates (p ∷ ps) e = let same = first_two e in (rw (← same.0) p.x_in_range, rw (← same.1) p.y_in_range)

-- the points before a position are points of the plane, and so is it
pub is_coordinate_behind : (before all : List Point) {x y : ℤ} (zs : List ℤ) → coordinates_of all ≡ coordinates_of before ++ (x ∷ y ∷ zs) → IsCoordinate x × IsCoordinate y
is_coordinate_behind [] all zs e = head_coordinates all e
is_coordinate_behind (p ∷ ps) [] zs e = absurd cc
is_coordinate_behind (p ∷ ps) (q ∷ qs) zs e = is_coordinate_behind ps qs zs (first_two e).2

pub lines_more : (ls : List (Vec Position Global)) (l : Vec Position Global) (zs : List (List ℤ)) → lines_of (ls ++ l ∷ []) ++ zs ≡ lines_of ls ++ (positions_of l.items ∷ zs)
lines_more [] l zs = refl
lines_more (k ∷ ks) l zs = ap (λ ws. positions_of k.items ∷ ws) (lines_more ks l zs)

-- the ring through all points but the last, which is the first
pub ring_made : (r : Result Ring (RingFault × Vec Point Global)) (all : List Point) (rest : Vec Point Global) (last : Point) → all ≡ rest.items ++ last ∷ [] → slice_get rest.items 0 ≡ Some last →
    MatchResult r (λ ring. corners_of ring ≡ rest.items) (λ refusal. IsRingFault rest.items refusal.0 × (refusal.1 ≡ rest)) →
    MatchOption (result_ok r) ((corners : List Point) → closed corners ≡ all → ¬ IsRing corners) (λ ring. closed (corners_of ring) ≡ all)
ring_made (Ok ring) all rest last e f h = ap closed h ∙ (closed_again rest.items last f ∙ sym e)
ring_made (Err refusal) all rest last e f h = λ corners g. let parts = closed_parts corners rest.items last (g ∙ e) in rw parts.0 (none_round rest.items refusal.0 h.0)

pub ring_found : (o : Option Ring) (points : List Point) (zs : List ℤ) → coordinates_of points ≡ zs →
    MatchOption o ((corners : List Point) → closed corners ≡ points → ¬ IsRing corners) (λ ring. closed (corners_of ring) ≡ points) →
    MatchOption o ((corners : List Point) → coordinates_of (closed corners) ≡ zs → ¬ IsRing corners) (λ ring. coordinates_of (closed (corners_of ring)) ≡ zs)
ring_found None points zs p h = λ corners e. h corners (coordinates_once (closed corners) points (e ∙ sym p))
ring_found (Some ring) points zs p h = ap coordinates_of h ∙ p
