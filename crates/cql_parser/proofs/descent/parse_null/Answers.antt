use Rattle.cql_lexer.specs.Mark.{word}
use Rattle.cql_lexer.specs.declared.token.Keyword.TheVariants.{Null}
use Rattle.std.proofs.Common.{refl}
use Rattle.cql_parser.specs.Machine.{want_null, have_predicate}
use Rattle.cql_parser.proofs.Turns.{goes, null_stops}
use Rattle.cql_parser.proofs.descent.parse_null.Goals as goal

pub returns-in_ok-tree-in-Some-clause-parses : goal.returns-in_ok-tree-in-Some-clause-parses
returns-in_ok-tree-in-Some-clause-parses c =
    λ k.
    rw c.in_ok-tree-in-Some.ensures
    (goes (want_null _ _ k) (have_predicate k _) (word Null) _ _ (λ p. refl) c.in-Some.ensures.found)

pub returns-in-None-clause-parses : goal.returns-in-None-clause-parses
returns-in-None-clause-parses c = λ k. null_stops _ _ k _ c.in-None.ensures.none
