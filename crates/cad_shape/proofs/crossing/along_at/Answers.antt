use Rattle.std.proofs.Common.{◌≡◌, ℤ, ◌+ℤ◌, ◌*ℤ◌, FitsSigned, to_z, of_z, ◌∙◌, arith}
use mir.Syntax.{w128}
use Rattle.std.proofs.lemmas.Int.{ints}
use Rattle.cad_shape.specs.Coordinates.{IsProduct}
use Rattle.cad_shape.proofs.Fields.{difference_x, difference_y}
use Rattle.cad_shape.proofs.crossing.along_at.Goals as goal

pub product-requires-2 : goal.product-requires-2
product-requires-2 c =
    let p = c.args.p in
    let q = c.args.c in
    let s = c.args.s in
    rw (difference_y q p, difference_y q s) (omega (arith, ints))

fits : (a b : ℤ) → IsProduct a → IsProduct b → FitsSigned w128 (to_z w128 (of_z w128 a) +ℤ to_z w128 (of_z w128 b))
fits a b h k = omega (arith, ints)

is_sum : (a b : ℤ) → IsProduct a → IsProduct b → to_z w128 (of_z w128 (to_z w128 (of_z w128 a) +ℤ to_z w128 (of_z w128 b))) ≡ a +ℤ b
is_sum a b h k = omega (arith, ints)

pub overflow_add-result : goal.overflow_add-result
overflow_add-result c = fits c.product.result c.product-2.result c.product.ensures.small c.product-2.ensures.small

pub returns : goal.returns
returns c =
    let p = c.args.p in
    let q = c.args.c in
    let s = c.args.s in
    is_sum c.product.result c.product-2.result c.product.ensures.small c.product-2.ensures.small
    ∙ (λ i. (c.product.ensures.value ∙ (λ j. difference_x q p j *ℤ difference_x q s j)) i +ℤ (c.product-2.ensures.value ∙ (λ j. difference_y q p j *ℤ difference_y q s j)) i)
