use Rattle.std.proofs.Common.{◌-ℤ◌, ◌*ℤ◌, ◌∙◌, arith}
use Rattle.std.proofs.lemmas.Int.{ints}
use Rattle.cad_shape.proofs.Fields.{difference_x, difference_y, difference_fits, is_difference}
use Rattle.cad_shape.proofs.segment.turn_at.Goals as goal

pub product-requires-2 : goal.product-requires-2
product-requires-2 c =
    let p = c.args.p in
    let q = c.args.q in
    let r = c.args.r in
    rw (difference_y p q, difference_x p r) (omega (arith, ints))

pub overflow_sub-result : goal.overflow_sub-result
overflow_sub-result c = difference_fits c.product.result c.product-2.result c.product.ensures.small c.product-2.ensures.small

pub returns : goal.returns
returns c =
    let p = c.args.p in
    let q = c.args.q in
    let r = c.args.r in
    is_difference c.product.result c.product-2.result c.product.ensures.small c.product-2.ensures.small
    ∙ (λ i. (c.product.ensures.value ∙ (λ j. difference_x p q j *ℤ difference_y p r j)) i -ℤ (c.product-2.ensures.value ∙ (λ j. difference_y p q j *ℤ difference_x p r j)) i)
