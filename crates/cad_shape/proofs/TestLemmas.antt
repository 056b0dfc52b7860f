-- Each test of shapes is true exactly where its relation holds.
use Rattle.std.proofs.Common.{◌≡◌, ℤ, pos, ◌≤ℤ◌, ◌<ℤ◌, int_lt, int_le, Bool, true, List, [], ◌∷◌, inl, inr, refl, sym, ap, arith}
use Rattle.std.specs.Prelude.{◌↔◌, IsTrue, IfSome, is_some, Option, Some, None}
use Rattle.std.specs.Bool.{Decides}
use Rattle.std.specs.List.{list_all, list_any}
use Rattle.std.proofs.lemmas.Int.{ints}
use Rattle.std.proofs.lemmas.Bool.Decides.{Decides-and, Decides-or, Decides-not, Decides-eqb, Decides-int_eq, Decides-like, Decides-by_and, same_from_decides}
use Rattle.cad_shape.specs.declared.point.Point.{Point}
use Rattle.cad_shape.specs.declared.boxes.Bounds.{Bounds}
use Rattle.cad_shape.specs.declared.shape.Shape.{Shape}
use Rattle.cad_shape.specs.declared.shape.Shape.TheVariants.{Spot, Frame, Area}
use Rattle.cad_shape.specs.Edges.{Edge, AnyOf}
use Rattle.cad_shape.specs.Frames.{IsHeld}
use Rattle.cad_shape.specs.Regions.{IsOnSome, IsInRegion, SomeMeet}
use Rattle.cad_shape.specs.RegionRings.{region_edges}
use Rattle.cad_shape.specs.Segments.{IsBetween, IsOn, Meet, turn, Straddle, AllBelow, Apart}
use Rattle.cad_shape.specs.Shapes.{shape_corners, shape_edges, IsIn, SomeIn, RegionsMeet, RegionMeets, Meets, AreFramed, IsWithin, is_judged}
use Rattle.cad_shape.specs.Tests as test
use Rattle.cad_shape.proofs.SharedPoints.{reaches, apart_never, meets_only}

less : (a b : ℤ) → Decides (int_lt a b) (a <ℤ b)
less a b = (λ h. omega (arith, ints), λ h. let e : true ≡ int_lt a b = omega (arith, ints) in sym e)

at_most : (a b : ℤ) → Decides (int_le a b) (a ≤ℤ b)
at_most a b = (λ h. omega (arith, ints), λ h. let e : true ≡ int_le a b = omega (arith, ints) in sym e)

-- some element passes the test
some_passes : {X : Type 0} (p : X → Bool) (P : X → Type 0) → ((x : X) → Decides (p x) (P x)) → (xs : List X) → Decides (list_any p xs) (AnyOf P xs)
some_passes p P each [] = (λ h. absurd cc, λ h. absurd h)
some_passes p P each (x ∷ xs) = Decides-or (p x) (list_any p xs) (each x) (some_passes p P each xs)

all_below : (a b c d : ℤ) → Decides (test.all_below a b c d) (AllBelow a b c d)
all_below a b c d = Decides-like _ (λ h. (h.0, h.1.0, h.1.1.0, h.1.1.1)) (λ h. (h.0, (h.1, (h.2, h.3))))
    (Decides-and _ _ (less a c) (Decides-and _ _ (less a d) (Decides-and _ _ (less b c) (less b d))))

apart : (p q r s : ℤ) → Decides (test.apart p q r s) (Apart p q r s)
apart p q r s = Decides-or _ _ (all_below p q r s) (all_below r s p q)

straddle : (f g : ℤ) → Decides (test.straddle f g) (Straddle f g)
straddle f g = Decides-or _ _ (Decides-and _ _ (at_most f (pos 0)) (at_most (pos 0) g)) (Decides-and _ _ (at_most g (pos 0)) (at_most (pos 0) f))

segments : (p q r s : Point) → Decides (test.segments_meet p q r s) (Meet p q r s)
segments p q r s = Decides-like _
    (λ h. reaches p q r s h.0.0 h.0.1 h.1.0 h.1.1)
    (λ m. ((λ a. apart_never p q r s (inl a) m, λ a. apart_never p q r s (inr a) m), meets_only p q r s m))
    (Decides-and _ _
    (Decides-and _ _ (Decides-not _ (apart p.x q.x r.x s.x)) (Decides-not _ (apart p.y q.y r.y s.y)))
    (Decides-and _ _ (straddle (turn p q r) (turn p q s)) (straddle (turn r s p) (turn r s q))))

between : (a b n : ℤ) → Decides (test.is_between a b n) (IsBetween a b n)
between a b n = Decides-or _ _ (Decides-and _ _ (at_most a n) (at_most n b)) (Decides-and _ _ (at_most b n) (at_most n a))

on : (p q : Point) (x y w : ℤ) → Decides (test.is_on p q x y w) (IsOn p q x y w)
on p q x y w = Decides-like _ (λ h. record { line = h.0; in_x = h.1.0; in_y = h.1.1 }) (λ h. (h.line, (h.in_x, h.in_y)))
    (Decides-and _ _ (Decides-int_eq _ _) (Decides-and _ _ (between _ _ x) (between _ _ y)))

on_some : (t : Point) (edges : List Edge) → Decides (test.is_on_some t edges) (IsOnSome t edges)
on_some t edges = some_passes _ _ (λ e. on e.from e.to t.x t.y (pos 1)) edges

pub region : (t : Point) (edges : List Edge) → Decides (test.is_in_region t edges) (IsInRegion t edges)
region t edges = Decides-or _ _ (on_some t edges) (Decides-eqb _ 1)

held : (bounds : Bounds) (p : Point) → Decides (test.is_held bounds p) (IsHeld bounds p)
held bounds p = Decides-and _ _ (Decides-and _ _ (at_most _ _) (at_most _ _)) (Decides-and _ _ (at_most _ _) (at_most _ _))

lies_in : (t : Point) (shape : Shape) → Decides (test.is_in t shape) (IsIn t shape)
lies_in t (Spot p) = Decides-and _ _ (Decides-int_eq t.x p.x) (Decides-int_eq t.y p.y)
lies_in t (Frame bounds) = held bounds t
lies_in t (Area shape) = region t (region_edges shape)

some_in : (points : List Point) (shape : Shape) → Decides (list_any (λ p. test.is_in p shape) points) (SomeIn points shape)
some_in points shape = some_passes _ _ (λ p. lies_in p shape) points

edges_meet : (a b : List Edge) → Decides (test.some_meet a b) (SomeMeet a b)
edges_meet a b = some_passes _ _ (λ e. some_passes _ _ (λ f. segments e.from e.to f.from f.to) b) a

regions : (a b : Shape) → Decides (test.regions_meet a b) (RegionsMeet a b)
regions a b = Decides-or _ _ (edges_meet (shape_edges a) (shape_edges b)) (Decides-or _ _ (some_in (shape_corners a) b) (some_in (shape_corners b) a))

region_and : (a b : Shape) → Decides (test.region_meets a b) (RegionMeets a b)
region_and a (Spot q) = lies_in q a
region_and a (Frame g) = regions a (Frame g)
region_and a (Area s) = regions a (Area s)

pub meeting : (a b : Shape) → Decides (test.shapes_meet a b) (Meets a b)
meeting (Spot p) b = lies_in p b
meeting (Frame f) b = region_and (Frame f) b
meeting (Area r) b = region_and (Area r) b

framed : (corners : List Point) (b : Shape) → Decides (test.are_framed corners b) (AreFramed corners b)
framed corners (Spot p) = (λ h. absurd cc, λ h. absurd h)
framed corners (Frame bounds) = Decides-by_and (test.is_held bounds) (IsHeld bounds) (list_all (test.is_held bounds)) (held bounds) refl (λ _ _. refl) corners
framed corners (Area shape) = (λ h. absurd cc, λ h. absurd h)

pub lying_within : (a b : Shape) → Decides (test.shape_within a b) (IsWithin a b)
lying_within (Spot p) b = Decides-and _ _ (lies_in p b) (Decides-not _ (on_some p (shape_edges b)))
lying_within (Frame f) b = framed (shape_corners (Frame f)) b
lying_within (Area r) b = framed (shape_corners (Area r)) b

-- ---- what the calls say

pub told_of_meeting : (a b : Shape) (r : Bool) → (IsTrue r ↔ Meets a b) → r ≡ test.shapes_meet a b
told_of_meeting a b r h = same_from_decides r _ h (meeting a b)

pub told_of_within : (a b : Shape) (r : Option Bool) → is_some r ≡ is_judged a b → IfSome r (λ inside. IsTrue inside ↔ IsWithin a b) → r ≡ test.within a b
told_of_within a b None e h = rw (← e) refl
told_of_within a b (Some inside) e h = rw (← e) (ap (λ (t : Bool). Some t) (same_from_decides inside _ h (lying_within a b)))
