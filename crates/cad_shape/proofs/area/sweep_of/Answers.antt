use Rattle.std.proofs.Common.{◌-ℤ◌, ◌*ℤ◌, ◌∙◌, arith}
use Rattle.std.proofs.lemmas.Int.{ints}
use Rattle.cad_shape.proofs.Fields.{back_x, back_y, difference_fits, is_difference}
use Rattle.cad_shape.proofs.area.sweep_of.Goals as goal

pub overflow_sub-result : goal.overflow_sub-result
overflow_sub-result c = difference_fits c.product.result c.product-2.result c.product.ensures.small c.product-2.ensures.small

pub returns-clause-value : goal.returns-clause-value
returns-clause-value c =
    let p = c.args.p in
    let q = c.args.q in
    is_difference c.product.result c.product-2.result c.product.ensures.small c.product-2.ensures.small
    ∙ (λ i. (c.product.ensures.value ∙ (λ j. back_x p j *ℤ back_y q j)) i -ℤ (c.product-2.ensures.value ∙ (λ j. back_x q j *ℤ back_y p j)) i)

pub returns-clause-small : goal.returns-clause-small
returns-clause-small c =
    let a = c.product.ensures.small in
    let b = c.product-2.ensures.small in
    rw (is_difference c.product.result c.product-2.result a b) (omega (arith, ints))
