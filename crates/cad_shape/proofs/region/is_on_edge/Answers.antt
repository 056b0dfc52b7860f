use Rattle.std.proofs.Common.{◌≡◌, ℤ, pos, FitsSigned, of_z, sym, refl, ap, ◌∙◌, subst, rules}
use mir.Syntax.{w128}
use Rattle.std.proofs.lemmas.Bool.{false≢true}
use Rattle.cad_shape.specs.Segments.{IsBetween, turn}
use Rattle.cad_shape.proofs.Fields.{back_x, back_y, none}
use Rattle.cad_shape.proofs.SharedPoints.{on_one}
use Rattle.cad_shape.proofs.Walks.{edge_turn, edge_x, edge_y}
use Rattle.cad_shape.proofs.region.is_on_edge.Goals as goal

moved : (a b n a' b' n' : ℤ) → a ≡ a' → b ≡ b' → n ≡ n' → IsBetween a b n → IsBetween a' b' n'
moved a b n a' b' n' e f g h = subst (λ (z : ℤ). IsBetween a' b' z) g (subst (λ (z : ℤ). IsBetween a' z n) f (subst (λ (z : ℤ). IsBetween z b n) e h))

pub returns-then-turn_at-ne0 : goal.returns-then-turn_at-ne0
returns-then-turn_at-ne0 c =
    let r = c.turn_at.result in (
      λ z. absurd (false≢true z),
      λ h. absurd (c.if-turn_at-ne0.true (ap (of_z w128) (c.turn_at.ensures ∙ edge_turn c.args.point c.args.p c.args.q h))),
    )

pub returns-then-is_between : goal.returns-then-is_between
returns-then-is_between c =
    let t = c.args.point in
    let p = c.args.p in
    let q = c.args.q in
    let fits : FitsSigned w128 c.turn_at.result = search rules in
    let e : turn p q t ≡ pos 0 = sym c.turn_at.ensures ∙ none c.turn_at.result fits c.if-turn_at-ne0.false in
    let x = moved _ _ _ _ _ _ (back_x p) (back_x q) (back_x t) (c.if-is_between.ensures.0 refl) in (
      λ z. on_one p q t e x (moved _ _ _ _ _ _ (back_y p) (back_y q) (back_y t) (c.is_between-then-is_between.ensures.0 z)),
      λ h. c.is_between-then-is_between.ensures.1 (moved _ _ _ _ _ _ (sym (back_y p)) (sym (back_y q)) (sym (back_y t)) (edge_y t p q h)),
    )

pub returns-else-is_between : goal.returns-else-is_between
returns-else-is_between c =
    let t = c.args.point in
    let p = c.args.p in
    let q = c.args.q in (
      λ z. absurd (false≢true (sym c.if-is_between.false ∙ z)),
      λ h. c.is_between.ensures.1 (moved _ _ _ _ _ _ (sym (back_x p)) (sym (back_x q)) (sym (back_x t)) (edge_x t p q h)),
    )
