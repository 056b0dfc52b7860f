use Rattle.std.proofs.Common.{ap, sym, ◌∙◌, map}
use Rattle.cql_lexer.specs.declared.token.Comparison.TheVariants.{AtMost, AtLeast}
use Rattle.cql_meaning.specs.lemmas.NodeLemmas.{sides_And, sides_Between, sides_CompareWhole}
use Rattle.cql_meaning.specs.Sides.{conjunction, sides}
use Rattle.cql_meaning.proofs.laws.between_is_two_comparisons.Goals as goal

pub returns : goal.returns
returns c = λ a low high fs x is.
    sides_Between x a low high
    ∙ sym (sides_And x fs ∙ ap (λ parts. conjunction (map (sides x) parts)) is ∙ rw (sides_CompareWhole x AtLeast a low, sides_CompareWhole x AtMost a high))
