use Rattle.std.proofs.Common.{FitsSigned, w64, ◌∙◌, rules}
use mir.Syntax.{w128}
use Rattle.std.proofs.lemmas.Int.{to_z-of_z}
use Rattle.cad_shape.proofs.Signs.{product_fits, product_within}
use Rattle.cad_shape.proofs.segment.product.Goals as goal

pub overflow_mul-result : goal.overflow_mul-result
overflow_mul-result c =
    let f : FitsSigned w128 c.from.result = search rules in
    let g : FitsSigned w128 c.from-2.result = search rules in
    let a = to_z-of_z w128 c.from.result f ∙ c.from.ensures ∙ to_z-of_z w64 c.args.a c.ranges.a in
    let b = to_z-of_z w128 c.from-2.result g ∙ c.from-2.ensures ∙ to_z-of_z w64 c.args.b c.ranges.b in
    rw (a, b) (product_fits c.args.a c.args.b c.requires.0 c.requires.1)

pub returns-clause-small : goal.returns-clause-small
returns-clause-small c =
    let f : FitsSigned w128 c.from.result = search rules in
    let g : FitsSigned w128 c.from-2.result = search rules in
    let a = to_z-of_z w128 c.from.result f ∙ c.from.ensures ∙ to_z-of_z w64 c.args.a c.ranges.a in
    let b = to_z-of_z w128 c.from-2.result g ∙ c.from-2.ensures ∙ to_z-of_z w64 c.args.b c.ranges.b in
    let fits = product_fits c.args.a c.args.b c.requires.0 c.requires.1 in
    rw (a, b, to_z-of_z w128 _ fits) (product_within c.args.a c.args.b c.requires.0 c.requires.1)
