use Rattle.std.proofs.Common.{◌≡◌, ◌∙◌, ap}
use Rattle.cql_lexer.specs.declared.token.Comparison.TheVariants.{AtMost}
use Rattle.cql_meaning.specs.Sides.{Sides}
use Rattle.cql_rewrite.specs.Meets.{joined_test, meets, side_of}
use Rattle.cql_rewrite.specs.Terms.{whole_sides}
use Rattle.cql_rewrite.proofs.between.with_most.Goals as goal

pub returns-clause-stands : goal.returns-clause-stands
returns-clause-stands c = λ x.
    let t : Sides = whole_sides AtMost x c.args.value.now c.args.high.now in
    let most : meets x c.in-Some.most ≡ side_of c.args.side t = rw c.in-Some.is at (c.in-Ok.ensures.stands x t (c.plain_wholes.ensures.says x)) in
    c.in_ok-form.ensures.stands x ∙ ap (joined_test c.args.side (meets x c.args.least)) most
