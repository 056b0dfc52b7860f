use Rattle.std.proofs.Common.{◌≡◌, ◌==◌, ◌++◌, ◌∷◌, ℕ, List, [], length, refl, sym, ap, ◌∙◌, true, arith, append-nil}
use Rattle.std.proofs.lemmas.Bool.Decides.{nat_tests}
use Rattle.cad_shape.specs.declared.ring.Ring.{Ring}
use Rattle.cad_shape.specs.declared.polygon.Region.{Region}
use Rattle.cad_versions.specs.ShapeBytes.{ring_bytes, IsOneRingOf}
use Rattle.cad_versions.specs.lemmas.RingLemmas.{same_front_ring}
use Rattle.cad_versions.proofs.shape_bytes.read_one_ring.Goals as goal

pub returns-in_default : goal.returns-in_default
returns-in_default c region is = (rw c.in_default.is at c.in_ok-ring.ensures) is.0 [] (is.2 ∙ sym (append-nil (ring_bytes is.0)))

-- what stands behind the one ring is nothing
behind_none : (bytes behind : List ℕ) (ring : Ring) (region : Region) → bytes ≡ ring_bytes ring ++ behind → (is : IsOneRingOf bytes region) → (ring ≡ is.0) × (behind ≡ [])
behind_none bytes behind ring region held is = same_front_ring ring is.0 behind [] (sym held ∙ is.2 ∙ sym (append-nil (ring_bytes is.0)))

empty_is : (behind : List ℕ) → behind ≡ [] → (length behind == 0) ≡ true
empty_is behind e = ap (λ l. length l == 0) e

nil_is : (behind : List ℕ) → (length behind == 0) ≡ true → behind ≡ []
nil_is [] e = refl
nil_is (b ∷ bs) e = absurd (grind (arith, nat_tests, e))

pub returns-then-not-is_empty : goal.returns-then-not-is_empty
returns-then-not-is_empty c region is =
    let held : c.args.bytes.now ≡ ring_bytes c.in-Some.ring ++ c.in-Some.behind.now = rw c.in-Some.is at c.in_ok-ring.ensures in
    let empty = empty_is c.in-Some.behind.now (behind_none c.args.bytes.now c.in-Some.behind.now c.in-Some.ring region held is).1 in
    absurd cc

pub returns : goal.returns
returns c =
    let held : c.args.bytes.now ≡ ring_bytes c.in-Some.ring ++ c.in-Some.behind.now = rw c.in-Some.is at c.in_ok-ring.ensures in
    let none : c.in-Some.behind.now ≡ [] = nil_is c.in-Some.behind.now cc in
    let whole : c.args.bytes.now ≡ ring_bytes c.in-Some.ring = held ∙ ap (λ l. ring_bytes c.in-Some.ring ++ l) none ∙ append-nil _ in
    (c.in-Some.ring, c.in_ok-region.ensures, whole)
