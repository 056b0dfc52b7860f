use Rattle.std.proofs.Common.{◌≡◌, ◌∷◌, drop, map}
use Rattle.cql_lexer.specs.declared.token.Comparison.TheVariants.{Equal}
use Rattle.cql_meaning.specs.Said.{said}
use Rattle.cql_meaning.specs.Sides.{among, disjunction, equal_to, wholes}
use Rattle.cql_meaning.specs.Arithmetic.{whole_value}
use Rattle.cql_meaning.proofs.whole.in_wholes.Given as goal

abbrev pub invariant-loop-item : goal.invariant-loop-item
invariant-loop-item l =
    disjunction (said l.found ∷ map (equal_to (wholes Equal) (whole_value l.feature) l.value) (drop l.item-index l.items))
    ≡ among (wholes Equal) (whole_value l.feature) l.value l.items
