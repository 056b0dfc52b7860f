use Rattle.std.proofs.Common.{◌≡◌, ◌↔◌, IsTrue, Bool, ℤ, FitsSigned, ◌∙◌, subst, rules}
use mir.Syntax.{w128}
use Rattle.std.proofs.lemmas.Int.{to_z-of_z}
use Rattle.cad_shape.specs.Segments.{Straddle}
use Rattle.cad_shape.proofs.segment.straddle.Goals as goal

moved : (t : Bool) (a b a' b' : ℤ) → a ≡ a' → b ≡ b' → (IsTrue t ↔ Straddle a b) → (IsTrue t ↔ Straddle a' b')
moved t a b a' b' e f k = subst (λ (z : ℤ). IsTrue t ↔ Straddle a' z) f (subst (λ (z : ℤ). IsTrue t ↔ Straddle z b) e k)

pub returns : goal.returns
returns c =
    let f : FitsSigned w128 c.turn_at.result = search rules in
    let g : FitsSigned w128 c.turn_at-2.result = search rules in
    moved _ _ _ _ _ (to_z-of_z w128 c.turn_at.result f ∙ c.turn_at.ensures) (to_z-of_z w128 c.turn_at-2.result g ∙ c.turn_at-2.ensures) c.on_both_sides.ensures
