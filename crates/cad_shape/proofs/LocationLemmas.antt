-- Where a point lies.
use Rattle.std.proofs.Common.{◌≡◌, ◌↔◌, IsTrue, ℕ, ◌+◌, ◌%◌, nat_eq, Bool, true, false, not, if◌then◌else◌, inl, inr, ⊎_elim, List, [], ◌∷◌, ◌++◌, refl, sym, ap, ◌∙◌, arith}
use Rattle.std.proofs.lemmas.Bool.{false≢true, cases_lt, eqb-true, eqb-false}
use Rattle.cad_shape.specs.declared.point.Point.{Point}
use Rattle.cad_shape.specs.declared.location.Location.{Location}
use Rattle.cad_shape.specs.declared.location.Location.TheVariants.{Boundary, Interior, Exterior}
use Rattle.cad_shape.specs.Edges.{Edge}
use Rattle.cad_shape.specs.Locations.{IsLocation, location_of, is_taken_in}
use Rattle.cad_shape.specs.Regions.{IsOnEdge, IsOnSome, crossings, IsInRegion}
use Rattle.cad_shape.proofs.Walks.{any_pushed, any_unpushed, crossings-push}

pub not_odd : (n : ℕ) → ¬ (n % 2 ≡ 1) → n % 2 ≡ 0
not_odd n h = ⊎_elim (λ k. omega arith) (λ k. absurd (h (omega arith))) (cases_lt (n % 2) 1)

pub outside_from : (t : Point) (es : List Edge) → ¬ (IsInRegion t es) → IsLocation t es Exterior
outside_from t es h = (λ k. h (inl k), not_odd (crossings t es) (λ k. h (inr k)))

-- by the number of edges that cross
pub location_is : (t : Point) (es : List Edge) (n : ℕ) → ¬ (IsOnSome t es) → crossings t es ≡ n → IsLocation t es (location_of n)
location_is t es n h e = by (nat_eq (n % 2) 1) refl
  where
    by : (b : Bool) → nat_eq (n % 2) 1 ≡ b → IsLocation t es (if b then Interior else Exterior)
    by true f = (h, ap (λ m. m % 2) e ∙ eqb-true (n % 2) 1 f)
    by false f = (h, ap (λ m. m % 2) e ∙ not_odd n (eqb-false (n % 2) 1 f))

pub taken_in : (t : Point) (es : List Edge) (l : Location) → IsLocation t es l → IsTrue (is_taken_in l) ↔ IsInRegion t es
taken_in t es Boundary h = (λ k. inl h, λ k. refl)
taken_in t es Interior h = (λ k. inr h.1, λ k. refl)
taken_in t es Exterior h = (λ k. absurd (false≢true k), λ k. ⊎_elim (λ m. absurd (h.0 m)) (λ m. absurd (omega arith)) k)

-- an edge at the end instead of at the front
pub location_pushed : (t : Point) (l : Location) (es : List Edge) (e : Edge) → IsLocation t (e ∷ es) l → IsLocation t (es ++ e ∷ []) l
location_pushed t Boundary es e h = any_pushed (λ (d : Edge). IsOnEdge t d.from d.to) es e h
location_pushed t Interior es e h = (λ k. h.0 (any_unpushed (λ (d : Edge). IsOnEdge t d.from d.to) es e k), ap (λ n. n % 2) (crossings-push t es e) ∙ h.1)
location_pushed t Exterior es e h = (λ k. h.0 (any_unpushed (λ (d : Edge). IsOnEdge t d.from d.to) es e k), ap (λ n. n % 2) (crossings-push t es e) ∙ h.1)

-- ---- one ring more, of whose edges an odd or an even number cross
pub odd_step : (all here rest : ℕ) (odd next : Bool) → next ≡ not odd → (all + (here + rest) + (if odd then 1 else 0)) % 2 ≡ 0 → here % 2 ≡ 1 → (all + rest + (if next then 1 else 0)) % 2 ≡ 0
odd_step all here rest true true e h k = absurd (false≢true (sym e))
odd_step all here rest true false e h k = omega arith
odd_step all here rest false true e h k = omega arith
odd_step all here rest false false e h k = absurd (false≢true e)

pub even_step : (all here rest : ℕ) (odd next : Bool) → next ≡ odd → (all + (here + rest) + (if odd then 1 else 0)) % 2 ≡ 0 → here % 2 ≡ 0 → (all + rest + (if next then 1 else 0)) % 2 ≡ 0
even_step all here rest true true e h k = omega arith
even_step all here rest true false e h k = absurd (false≢true e)
even_step all here rest false true e h k = absurd (false≢true (sym e))
even_step all here rest false false e h k = omega arith
