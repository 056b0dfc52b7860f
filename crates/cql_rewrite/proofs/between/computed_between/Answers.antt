use Rattle.std.proofs.Common.{◌≡◌, ◌∙◌, ap, subst}
use Rattle.cql_lexer.specs.declared.token.Comparison.TheVariants.{AtLeast, AtMost}
use Rattle.cql_meaning.specs.Sides.{Sides}
use Rattle.cql_rewrite.specs.Meets.{joined_test, meets, side_of}
use Rattle.cql_rewrite.specs.Terms.{met_or, whole_sides}
use Rattle.cql_rewrite.proofs.Forms.{pair_sides}
use Rattle.cql_rewrite.proofs.between.computed_between.Goals as goal

pub returns-in_ok-form-in-Some-clause-stands : goal.returns-in_ok-form-in-Some-clause-stands
returns-in_ok-form-in-Some-clause-stands c = λ x.
    let s : Sides = whole_sides AtLeast x c.args.value.now c.args.low.now in
    let t : Sides = whole_sides AtMost x c.args.value.now c.args.high.now in
    let least : meets x c.in-Some.least ≡ side_of c.args.side s = rw c.in-Some.is at (c.in_ok-least.ensures.stands x s (c.plain_wholes.ensures.says x)) in
    subst (λ b. met_or x c.in_ok-form-in-Some.form b ≡ b)
    (ap (λ b. joined_test c.args.side b (side_of c.args.side t)) least ∙ pair_sides c.args.side s t)
    (c.in_ok-form-in-Some.ensures.stands x)
