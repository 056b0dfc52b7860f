-- Values of JSON, and what they say.
use Rattle.std.proofs.Common.{◌≡◌, ℕ, zero, suc, ◌<◌, List, [], ◌∷◌, ◌++◌, ◌+◌, length, take, get_or, arith, Some, refl, ap₂, subst}
use Rattle.std.proofs.lemmas.List.{take_more}
use Rattle.serde_json.specs.Data.{Data, Items, no_items, item}
use Rattle.serde_json.specs.Find.{as_array}
use Rattle.serde_json.specs.View.{items_view, view}
use Rattle.serde_json.specs.declared.value.Value.{Value}
use Rattle.cad_shape.specs.lemmas.SameLemmas.{same_point}
use Rattle.cad_shape.specs.declared.point.Point.{Point}
use Rattle.cad_shape.specs.declared.ring.Ring.{Ring}
use Rattle.cad_shape.specs.declared.ring.RingFault.{RingFault}
use Rattle.cad_shape.specs.Outlines.{IsRing}
use Rattle.cad_shape.specs.Rings.{corners_of, IsRingFault, no_ring, ring_is}
use Rattle.cad_commands.specs.Values.{IsPointOf, ArePointsOf, IsRingOf}

-- other than two values are no pair
pub no_pair : (vs : List Value) → (length vs ≡ 2 → ⊥) → (first second : Data) → items_view vs ≡ item first (item second no_items) → ⊥
no_pair [] other first second e = cc
no_pair (a ∷ []) other first second e = cc
no_pair (a ∷ (b ∷ [])) other first second e = other refl
no_pair (a ∷ (b ∷ (c ∷ vs))) other first second e = cc

-- one of the points
pub point_at : (vs : List Value) (i : ℕ) (d : Value) (points : List Point) → i < length vs → ArePointsOf (items_view vs) points → (point : Point) × IsPointOf (view (get_or vs i d)) point
point_at [] i d points h are = absurd (omega arith)
point_at (v ∷ vs) i d [] h are = absurd are
point_at (v ∷ vs) zero d (point ∷ points) h are = (point, are.0)
point_at (v ∷ vs) (suc i) d (point ∷ points) h are = point_at vs i d points (omega arith) are.1

-- a value says one point
pub point_said : (d : Data) (a b : Point) → IsPointOf d a → IsPointOf d b → a ≡ b
point_said d a b s t =
    let pairs : item s.0 (item s.1 no_items) ≡ item t.0 (item t.1 no_items) = cc in
    let xs : s.0 ≡ t.0 = cc in
    let ys : s.1 ≡ t.1 = cc in
    same_point a b (cc) (cc)

-- and a list of values one list of points
pub points_said : (ds : Items) (xs ys : List Point) → ArePointsOf ds xs → ArePointsOf ds ys → xs ≡ ys
points_said no_items [] [] s t = refl
points_said no_items [] (y ∷ ys) s t = absurd t
points_said no_items (x ∷ xs) ys s t = absurd s
points_said (item d ds) [] ys s t = absurd s
points_said (item d ds) (x ∷ xs) [] s t = absurd t
points_said (item d ds) (x ∷ xs) (y ∷ ys) s t = ap₂ (λ p ps. p ∷ ps) (point_said d x y s.0 t.0) (points_said ds xs ys s.1 t.1)

points_more : (vs : List Value) (v : Value) (points : List Point) (point : Point) → ArePointsOf (items_view vs) points → IsPointOf (view v) point → ArePointsOf (items_view (vs ++ v ∷ [])) (points ++ point ∷ [])
points_more [] v [] point are is = (is, tt)
points_more [] v (p ∷ points) point are is = absurd are
points_more (w ∷ vs) v [] point are is = absurd are
points_more (w ∷ vs) v (p ∷ points) point are is = (are.0, points_more vs v points point are.1 is)

-- one point more
pub points_next : (vs : List Value) (i : ℕ) (v d : Value) (points : List Point) (point : Point) → i < length vs → v ≡ get_or vs i d → ArePointsOf (items_view (take i vs)) points → IsPointOf (view v) point → ArePointsOf (items_view (take (i + 1) vs)) (points ++ point ∷ [])
points_next vs i v d points point h is are said = rw (take_more vs i d h, ← is) (points_more (take i vs) v points point are said)

-- a list that says points that are no ring says no ring
pub says_no_ring : (d : Data) (ds : Items) (corners : List Point) (fault : RingFault) → as_array d ≡ Some ds → ArePointsOf ds corners → IsRingFault corners fault → (ring : Ring) → IsRingOf d ring → ⊥
says_no_ring d ds corners fault array are wrong ring is =
    let same : is.0 ≡ ds = cc in
    let one : corners_of ring ≡ corners = points_said ds (corners_of ring) corners (rw same at is.2) are in
    no_ring corners fault wrong (subst IsRing one (ring_is ring))
