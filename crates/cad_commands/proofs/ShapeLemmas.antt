-- A shape is said by its outline and its holes, and two members say one shape.
use Rattle.std.proofs.Common.{◌≡◌, ℕ, zero, suc, ◌<◌, ◌+◌, List, [], ◌∷◌, ◌++◌, length, take, get_or, Option, Some, None, codes, refl, sym, ap, ap₂, ◌∙◌, arith}
use Rattle.std.proofs.lemmas.List.{take_more}
use Rattle.serde_json.specs.Data.{Data, Items, Members, no_items, item}
use Rattle.serde_json.specs.View.{items_view, view}
use Rattle.serde_json.specs.declared.value.Value.{Value}
use Rattle.cad_shape.specs.declared.ring.Ring.{Ring}
use Rattle.cad_shape.specs.declared.polygon.Region.{Region}
use Rattle.cad_shape.specs.RegionRings.{rings_of, same_region}
use Rattle.cad_commands.specs.Bodies.{SaysShape}
use Rattle.cad_commands.specs.Members.{SaysAny, MayHave}
use Rattle.cad_commands.specs.Values.{IsRingOf, AreRingsOf, AreHolesOf, MayHaveHoles, IsRegionOf, IsShapeOf, holes_listed}
use Rattle.cad_commands.proofs.OneValue.{one_ring}

-- ---- lists of rings

pub ring_at : (vs : List Value) (i : ℕ) (d : Value) (rings : List Ring) → i < length vs → AreRingsOf (items_view vs) rings → (ring : Ring) × IsRingOf (view (get_or vs i d)) ring
ring_at [] i d rings h are = absurd (omega arith)
ring_at (v ∷ vs) i d [] h are = absurd are
ring_at (v ∷ vs) zero d (ring ∷ rings) h are = (ring, are.0)
ring_at (v ∷ vs) (suc i) d (ring ∷ rings) h are = ring_at vs i d rings (omega arith) are.1

rings_more : (vs : List Value) (v : Value) (rings : List Ring) (ring : Ring) → AreRingsOf (items_view vs) rings → IsRingOf (view v) ring → AreRingsOf (items_view (vs ++ v ∷ [])) (rings ++ ring ∷ [])
rings_more [] v [] ring are is = (is, tt)
rings_more [] v (r ∷ rings) ring are is = absurd are
rings_more (w ∷ vs) v [] ring are is = absurd are
rings_more (w ∷ vs) v (r ∷ rings) ring are is = (are.0, rings_more vs v rings ring are.1 is)

-- one ring more
pub rings_next : (vs : List Value) (i : ℕ) (v d : Value) (rings : List Ring) (ring : Ring) → i < length vs → v ≡ get_or vs i d → AreRingsOf (items_view (take i vs)) rings → IsRingOf (view v) ring → AreRingsOf (items_view (take (i + 1) vs)) (rings ++ ring ∷ [])
rings_next vs i v d rings ring h is are said = rw (take_more vs i d h, ← is) (rings_more (take i vs) v rings ring are said)

-- ---- one shape alone

one_rings : (ds : Items) (xs ys : List Ring) → AreRingsOf ds xs → AreRingsOf ds ys → xs ≡ ys
one_rings no_items [] [] s t = refl
one_rings no_items [] (y ∷ ys) s t = absurd t
one_rings no_items (x ∷ xs) ys s t = absurd s
one_rings (item d ds) [] ys s t = absurd s
one_rings (item d ds) (x ∷ xs) [] s t = absurd t
one_rings (item d ds) (x ∷ xs) (y ∷ ys) s t = ap₂ (λ r rs. r ∷ rs) (one_ring d x y s.0 t.0) (one_rings ds xs ys s.1 t.1)

one_holes : (d : Data) (xs ys : List Ring) → AreHolesOf d xs → AreHolesOf d ys → xs ≡ ys
one_holes d xs ys s t =
    let lists : s.0 ≡ t.0 = cc in
    one_rings t.0 xs ys (rw lists at s.2) t.2

one_if_any : (o : Option Data) (xs ys : List Ring) → MayHaveHoles o xs → MayHaveHoles o ys → xs ≡ ys
one_if_any None xs ys s t = s ∙ sym t
one_if_any (Some d) xs ys s t = one_holes d xs ys s t

-- the rings of a region that is said are those that are said
pub rings_are : (outline : Data) (holes : Option Data) (region : Region) (outer : Ring) (inner : List Ring) → IsRegionOf outline holes region → IsRingOf outline outer → MayHaveHoles holes inner → rings_of region ≡ outer ∷ inner
rings_are outline holes region outer inner is out in_it = is.2 ∙ ap₂ (λ r rs. r ∷ rs) (one_ring outline is.0 outer is.3 out) (one_if_any holes is.1 inner is.4 in_it)

pub one_shape : (o h : Option Data) (a b : Option Region) → IsShapeOf o h a → IsShapeOf o h b → a ≡ b
one_shape None None None None s t = refl
one_shape None None None (Some b) s t = absurd t
one_shape None None (Some a) b s t = absurd s
one_shape None (Some h) a b s t = absurd s
one_shape (Some o) h None b s t = absurd s
one_shape (Some o) h (Some a) None s t = absurd t
one_shape (Some o) h (Some a) (Some b) s t = ap Some (same_region a b (rings_are o h a t.0 t.1 s t.3 t.4 ∙ sym t.2))

-- ---- what a shape that is said says of each member

outline_any : (o h : Option Data) (shape : Option Region) → IsShapeOf o h shape → (outline : Option Ring) × SaysAny IsRingOf o outline
outline_any None h shape is = (None, tt)
outline_any (Some o) h None is = absurd is
outline_any (Some o) h (Some region) is = (Some is.0, is.3)

pub outline_part : (ms : Members) (shape : Option Region) → SaysShape ms shape → (outline : Option Ring) × MayHave IsRingOf (codes "shape") ms outline
outline_part ms shape is = outline_any _ _ shape is

holes_any : (o h : Option Data) (shape : Option Region) → IsShapeOf o h shape → (holes : Option (List Ring)) × SaysAny AreHolesOf h holes
holes_any None None shape is = (None, tt)
holes_any None (Some h) shape is = absurd is
holes_any (Some o) h None is = absurd is
holes_any (Some o) None (Some region) is = (None, tt)
holes_any (Some o) (Some h) (Some region) is = (Some is.1, is.4)

pub holes_part : (ms : Members) (shape : Option Region) → SaysShape ms shape → (holes : Option (List Ring)) × MayHave AreHolesOf (codes "holes") ms holes
holes_part ms shape is = holes_any _ _ shape is

-- what says holes, or that there are none
any_holes : (h : Option Data) (holes : Option (List Ring)) → SaysAny AreHolesOf h holes → MayHaveHoles h (holes_listed holes)
any_holes None None says = refl
any_holes None (Some holes) says = absurd says
any_holes (Some h) None says = absurd says
any_holes (Some h) (Some holes) says = says

-- a shape that is said is the region of what the members say
region_any : (o h : Option Data) (outline : Ring) (holes : Option (List Ring)) → SaysAny IsRingOf o (Some outline) → SaysAny AreHolesOf h holes → (shape : Option Region) → IsShapeOf o h shape → (region : Region) × (rings_of region ≡ outline ∷ holes_listed holes)
region_any None h outline holes says also shape is = absurd says
region_any (Some o) h outline holes says also None is = absurd is
region_any (Some o) h outline holes says also (Some region) is = (region, rings_are o h region outline (holes_listed holes) is says (any_holes h holes also))

pub region_part : (ms : Members) (outline : Ring) (holes : Option (List Ring)) → MayHave IsRingOf (codes "shape") ms (Some outline) → MayHave AreHolesOf (codes "holes") ms holes → (shape : Option Region) → SaysShape ms shape → (region : Region) × (rings_of region ≡ outline ∷ holes_listed holes)
region_part ms outline holes says also shape is = region_any _ _ outline holes says also shape is

shape_any : (o h : Option Data) (outline : Ring) (holes : Option (List Ring)) (region : Region) → SaysAny IsRingOf o (Some outline) → SaysAny AreHolesOf h holes → rings_of region ≡ outline ∷ holes_listed holes → IsShapeOf o h (Some region)
shape_any None h outline holes region says also are = absurd says
shape_any (Some o) h outline holes region says also are = (outline, holes_listed holes, are, says, any_holes h holes also)

-- and that region is said
pub shape_said : (ms : Members) (outline : Ring) (holes : Option (List Ring)) (region : Region) → MayHave IsRingOf (codes "shape") ms (Some outline) → MayHave AreHolesOf (codes "holes") ms holes → rings_of region ≡ outline ∷ holes_listed holes → SaysShape ms (Some region)
shape_said ms outline holes region says also are = shape_any _ _ outline holes region says also are
