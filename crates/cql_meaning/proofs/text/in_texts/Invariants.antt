use Rattle.std.proofs.Common.{◌≡◌, ◌∷◌, drop, map}
use Rattle.cql_lexer.specs.declared.token.Comparison.TheVariants.{Equal}
use Rattle.cql_meaning.specs.inner.Contents.{content}
use Rattle.cql_meaning.specs.Said.{said}
use Rattle.cql_meaning.specs.Sides.{among, disjunction, equal_to, texts}
use Rattle.cql_meaning.specs.Values.{text_value}
use Rattle.cql_meaning.proofs.text.in_texts.Given as goal

abbrev pub invariant-loop-item : goal.invariant-loop-item
invariant-loop-item l =
    disjunction (said l.found ∷ map (equal_to (texts Equal) (text_value l.feature) (content l.value)) (drop l.item-index l.items))
    ≡ among (texts Equal) (text_value l.feature) (content l.value) l.items
