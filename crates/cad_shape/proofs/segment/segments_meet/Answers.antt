use Rattle.std.proofs.Common.{◌≡◌, inl, inr, ℤ, to_z, of_z, w64, sym, refl, ◌∙◌, subst}
use Rattle.std.proofs.lemmas.Bool.{false≢true}
use Rattle.cad_shape.specs.Segments.{Apart}
use Rattle.cad_shape.specs.declared.point.Point.{Point}
use Rattle.cad_shape.proofs.Fields.{back_x, back_y}
use Rattle.cad_shape.proofs.SharedPoints.{reaches, apart_never, meets_only}
use Rattle.cad_shape.proofs.segment.segments_meet.Goals as goal
use Rattle.cad_shape.proofs.segment.segments_meet.Goals.{then-apart-via-then-apart, then-apart-via-else-apart+then-apart-2}

moved : (a b c d a' b' c' d' : ℤ) → a ≡ a' → b ≡ b' → c ≡ c' → d ≡ d' → Apart a b c d → Apart a' b' c' d'
moved a b c d a' b' c' d' e f g h k = subst (λ (z : ℤ). Apart a' b' c' z) h (subst (λ (z : ℤ). Apart a' b' z d) g (subst (λ (z : ℤ). Apart a' z c d) f (subst (λ (z : ℤ). Apart z b c d) e k)))

in_x : (p q r s : Point) → Apart (to_z w64 (of_z w64 p.x)) (to_z w64 (of_z w64 q.x)) (to_z w64 (of_z w64 r.x)) (to_z w64 (of_z w64 s.x)) → Apart p.x q.x r.x s.x
in_x p q r s = moved _ _ _ _ _ _ _ _ (back_x p) (back_x q) (back_x r) (back_x s)

in_y : (p q r s : Point) → Apart (to_z w64 (of_z w64 p.y)) (to_z w64 (of_z w64 q.y)) (to_z w64 (of_z w64 r.y)) (to_z w64 (of_z w64 s.y)) → Apart p.y q.y r.y s.y
in_y p q r s = moved _ _ _ _ _ _ _ _ (back_y p) (back_y q) (back_y r) (back_y s)

from_x : (p q r s : Point) → Apart p.x q.x r.x s.x → Apart (to_z w64 (of_z w64 p.x)) (to_z w64 (of_z w64 q.x)) (to_z w64 (of_z w64 r.x)) (to_z w64 (of_z w64 s.x))
from_x p q r s = moved _ _ _ _ _ _ _ _ (sym (back_x p)) (sym (back_x q)) (sym (back_x r)) (sym (back_x s))

from_y : (p q r s : Point) → Apart p.y q.y r.y s.y → Apart (to_z w64 (of_z w64 p.y)) (to_z w64 (of_z w64 q.y)) (to_z w64 (of_z w64 r.y)) (to_z w64 (of_z w64 s.y))
from_y p q r s = moved _ _ _ _ _ _ _ _ (sym (back_y p)) (sym (back_y q)) (sym (back_y r)) (sym (back_y s))

pub returns-then-apart : goal.returns-then-apart
returns-then-apart c =
    let p = c.args.p in
    let q = c.args.q in
    let r = c.args.r in
    let s = c.args.s in (
      λ t. absurd (false≢true t),
      λ m. absurd (elim c.then-apart.branch [
        | then-apart-via-then-apart w ↦ apart_never p q r s (inl (in_x p q r s (w.if-apart.ensures.0 refl))) m
        | then-apart-via-else-apart+then-apart-2 w ↦ apart_never p q r s (inr (in_y p q r s (w.if-apart-2.ensures.0 refl))) m
      ]),
    )

pub returns-then-straddle : goal.returns-then-straddle
returns-then-straddle c =
    let p = c.args.p in
    let q = c.args.q in
    let r = c.args.r in
    let s = c.args.s in (
      λ t. reaches p q r s (λ a. false≢true (c.if-apart.ensures.1 (from_x p q r s a))) (λ a. false≢true (c.if-apart-2.ensures.1 (from_y p q r s a))) (c.if-straddle.ensures.0 refl) (c.straddle-then-straddle.ensures.0 t),
      λ m. c.straddle-then-straddle.ensures.1 (meets_only p q r s m).1,
    )

pub returns-else-straddle : goal.returns-else-straddle
returns-else-straddle c = (λ t. absurd (false≢true (sym c.if-straddle.false ∙ t)), λ m. c.straddle.ensures.1 (meets_only c.args.p c.args.q c.args.r c.args.s m).0)
