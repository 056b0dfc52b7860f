-- Values of JSON, and lists of them.
use Rattle.std.proofs.Common.{◌≡◌, ℕ, ◌<◌, List, [], ◌∷◌, ◌++◌, ◌+◌, length, take, get_or, Some, refl, sym, ap, ◌∙◌}
use Rattle.std.proofs.lemmas.List.{take_more}
use Rattle.serde_json.specs.Data.{Data, no_items, item}
use Rattle.serde_json.proofs.Views.{get_item_within}
use Rattle.serde_json.specs.Find.{get_item}
use Rattle.serde_json.specs.View.{items_view, view}
use Rattle.serde_json.specs.declared.value.Value.{Value}
use Rattle.cad_shape.specs.declared.point.Point.{Point}
use Rattle.cad_shape.specs.declared.ring.Ring.{Ring}
use Rattle.cad_commands.specs.Values.{IsPointOf, ArePointsOf, IsRingOf, AreRingsOf}

-- other than two values are no pair
pub no_pair : (vs : List Value) → (length vs ≡ 2 → ⊥) → (first second : Data) → items_view vs ≡ item first (item second no_items) → ⊥
no_pair [] other first second e = cc
no_pair (a ∷ []) other first second e = cc
no_pair (a ∷ (b ∷ [])) other first second e = other refl
no_pair (a ∷ (b ∷ (c ∷ vs))) other first second e = cc

points_more : (vs : List Value) (v : Value) (points : List Point) (point : Point) → ArePointsOf (items_view vs) points → IsPointOf (view v) point → ArePointsOf (items_view (vs ++ v ∷ [])) (points ++ point ∷ [])
points_more [] v [] point are is = (is, tt)
points_more [] v (p ∷ points) point are is = absurd are
points_more (w ∷ vs) v [] point are is = absurd are
points_more (w ∷ vs) v (p ∷ points) point are is = (are.0, points_more vs v points point are.1 is)

-- one point more
pub points_next : (vs : List Value) (i : ℕ) (v d : Value) (points : List Point) (point : Point) → i < length vs → v ≡ get_or vs i d → ArePointsOf (items_view (take i vs)) points → IsPointOf (view v) point → ArePointsOf (items_view (take (i + 1) vs)) (points ++ point ∷ [])
points_next vs i v d points point h is are said = rw (take_more vs i d h, ← is) (points_more (take i vs) v points point are said)

rings_more : (vs : List Value) (v : Value) (rings : List Ring) (ring : Ring) → AreRingsOf (items_view vs) rings → IsRingOf (view v) ring → AreRingsOf (items_view (vs ++ v ∷ [])) (rings ++ ring ∷ [])
rings_more [] v [] ring are is = (is, tt)
rings_more [] v (r ∷ rings) ring are is = absurd are
rings_more (w ∷ vs) v [] ring are is = absurd are
rings_more (w ∷ vs) v (r ∷ rings) ring are is = (are.0, rings_more vs v rings ring are.1 is)

-- one ring more
pub rings_next : (vs : List Value) (i : ℕ) (v d : Value) (rings : List Ring) (ring : Ring) → i < length vs → v ≡ get_or vs i d → AreRingsOf (items_view (take i vs)) rings → IsRingOf (view v) ring → AreRingsOf (items_view (take (i + 1) vs)) (rings ++ ring ∷ [])
rings_next vs i v d rings ring h is are said = rw (take_more vs i d h, ← is) (rings_more (take i vs) v rings ring are said)

-- the item of the list at an index
pub item_at : (vs : List Value) (i : ℕ) (v : Value) → i < length vs → v ≡ get_or vs i v → get_item i (items_view vs) ≡ Some (view v)
item_at vs i v h is = sym (ap (λ w. Some (view w)) is ∙ get_item_within vs i v h)
