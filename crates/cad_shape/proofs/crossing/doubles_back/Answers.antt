use Rattle.std.proofs.Common.{◌≡◌, pos, FitsSigned, to_z, of_z, int_lt, sym, ap, ◌∙◌, rules}
use mir.Syntax.{w128}
use Rattle.std.proofs.lemmas.Bool.{false≢true}
use Rattle.std.proofs.lemmas.Int.{to_z-of_z}
use Rattle.cad_shape.specs.Segments.{turn}
use Rattle.cad_shape.specs.Crossings.{along}
use Rattle.cad_shape.proofs.Fields.{none}
use Rattle.cad_shape.proofs.Heights.{above_zero, zero_below}
use Rattle.cad_shape.proofs.Neighbours.{more_from, turn_from, along_from}
use Rattle.cad_shape.proofs.crossing.doubles_back.Goals as goal

pub returns-then-turn_at-ne0 : goal.returns-then-turn_at-ne0
returns-then-turn_at-ne0 c = (
  λ z. absurd (false≢true z),
  λ h. absurd (c.if-turn_at-ne0.true (ap (of_z w128) (c.turn_at.ensures ∙ turn_from c.args.p c.args.c c.args.s h))),
)

pub returns : goal.returns
returns c =
    let p = c.args.p in
    let q = c.args.c in
    let s = c.args.s in
    let f : FitsSigned w128 c.turn_at.result = search rules in
    let g : FitsSigned w128 c.along_at.result = search rules in
    let e : turn p q s ≡ pos 0 = sym c.turn_at.ensures ∙ none c.turn_at.result f c.if-turn_at-ne0.false in
    let back : to_z w128 (of_z w128 c.along_at.result) ≡ along p q s = to_z-of_z w128 c.along_at.result g ∙ c.along_at.ensures in (
      λ z. more_from p q s e (above_zero (along p q s) (sym (ap (int_lt (pos 0)) back) ∙ z)),
      λ h. ap (int_lt (pos 0)) back ∙ zero_below (along p q s) (along_from p q s h),
    )
