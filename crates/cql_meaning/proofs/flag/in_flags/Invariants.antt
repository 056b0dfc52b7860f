use Rattle.std.proofs.Common.{◌≡◌, ◌∷◌, drop, map}
use Rattle.cql_lexer.specs.declared.token.Comparison.TheVariants.{Equal}
use Rattle.cql_meaning.specs.Said.{said}
use Rattle.cql_meaning.specs.Sides.{among, disjunction, equal_to, flags}
use Rattle.cql_meaning.specs.Values.{flag_value}
use Rattle.cql_meaning.proofs.flag.in_flags.Given as goal

abbrev pub invariant-loop-item : goal.invariant-loop-item
invariant-loop-item l =
    disjunction (said l.found ∷ map (equal_to (flags Equal) (flag_value l.feature) l.value) (drop l.item-index l.items))
    ≡ among (flags Equal) (flag_value l.feature) l.value l.items
