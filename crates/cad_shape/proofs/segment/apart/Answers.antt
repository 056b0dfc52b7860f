use Rattle.std.proofs.Common.{◌≡◌, ◌↔◌, IsTrue, inr, ⊎_elim, Bool, ℤ, w64, sym, ◌∙◌, subst}
use Rattle.std.proofs.lemmas.Bool.{false≢true}
use Rattle.std.proofs.lemmas.Int.{to_z-of_z}
use Rattle.cad_shape.specs.Segments.{AllBelow}
use Rattle.cad_shape.proofs.segment.apart.Goals as goal

moved : (t : Bool) (a b c d a' b' c' d' : ℤ) → a ≡ a' → b ≡ b' → c ≡ c' → d ≡ d' → (IsTrue t ↔ AllBelow a b c d) → (IsTrue t ↔ AllBelow a' b' c' d')
moved t a b c d a' b' c' d' e f g h k = subst (λ (z : ℤ). IsTrue t ↔ AllBelow a' b' c' z) h (subst (λ (z : ℤ). IsTrue t ↔ AllBelow a' b' z d) g (subst (λ (z : ℤ). IsTrue t ↔ AllBelow a' z c d) f (subst (λ (z : ℤ). IsTrue t ↔ AllBelow z b c d) e k)))

pub returns-else-all_below : goal.returns-else-all_below
returns-else-all_below c =
    let p = to_z-of_z w64 c.args.p c.ranges.p in
    let q = to_z-of_z w64 c.args.q c.ranges.q in
    let r = to_z-of_z w64 c.args.r c.ranges.r in
    let s = to_z-of_z w64 c.args.s c.ranges.s in
    let first = moved _ _ _ _ _ _ _ _ _ p q r s c.all_below.ensures in
    let second = moved _ _ _ _ _ _ _ _ _ r s p q c.all_below-else-all_below.ensures in
    (λ t. inr (second.0 t), λ a. ⊎_elim (λ b. absurd (false≢true (sym c.if-all_below.false ∙ first.1 b))) (λ b. second.1 b) a)
