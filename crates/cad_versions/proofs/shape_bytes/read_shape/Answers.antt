use Rattle.std.proofs.Common.{◌≡◌, ℕ, List, ◌∷◌, Option, Some, None, Result, Ok, Err, IfOk, inl, inr, sym, subst, arith}
use Rattle.std.specs.Option.{MatchOption}
use Rattle.cad_shape.specs.declared.polygon.Region.{Region}
use Rattle.cad_versions.specs.ShapeBytes.{IsOneRingOf, IsShapeOf}
use Rattle.cad_versions.proofs.shape_bytes.read_shape.Goals as goal

abbrev IsReadAs : {E : Type 0} → (Region → Type 0) → Result (Option Region) E → Type 0
IsReadAs Is result = IfOk result (λ found. MatchOption found ((region : Region) → ¬ Is region) Is)

-- behind the byte 1 stands one ring, or no shape is stored
read : {E : Type 0} (form : ℕ) (rest : List ℕ) (result : Result (Option Region) E) → form ≡ 1 → IsReadAs (IsOneRingOf rest) result → IsReadAs (IsShapeOf (form ∷ rest)) result
read form rest (Ok (Some region)) one h = inl (one, h)
read form rest (Ok None) one h = neither
  where
    neither : (region : Region) → IsShapeOf (form ∷ rest) region → ⊥
    neither region (inl ring) = h region ring.1
    neither region (inr rings) = absurd (omega (arith, one, rings.0))
read form rest (Err e) one h = h

pub returns-then-form-eq-ONE_RING : goal.returns-then-form-eq-ONE_RING
returns-then-form-eq-ONE_RING c =
    subst (λ bytes. IsReadAs (IsShapeOf bytes) c.read_one_ring.result) (sym c.in-Some.ensures.cases.0) (read c.in-Some.form.now c.in-Some.rest.now c.read_one_ring.result c.if-form-eq-ONE_RING.true c.read_one_ring.ensures)
