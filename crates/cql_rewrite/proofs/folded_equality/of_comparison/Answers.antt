use Rattle.cql_lexer.specs.declared.token.Comparison.TheVariants as comparison
use Rattle.cql_meaning.specs.Values.{text_value}
use Rattle.cql_rewrite.proofs.Turns.{flipped_texts}
use Rattle.cql_rewrite.proofs.folded_equality.of_comparison.Goals as goal

pub returns-in_ok-form-in-Equal-None-Some-clause-stands : goal.returns-in_ok-form-in-Equal-None-Some-clause-stands
returns-in_ok-form-in-Equal-None-Some-clause-stands c = λ x.
    let k = c.in-Equal-None-Some in
    rw (k.is-0, ← (flipped_texts comparison.Equal (text_value x c.args.left.now) (text_value x c.args.right.now)), k.ensures' x) (c.in_ok-form-in-Equal-None-Some.ensures.stands x)
