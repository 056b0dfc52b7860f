use Rattle.std.proofs.Common.{true, false, refl}
use Rattle.cql_lexer.specs.Mark.{marks, word}
use Rattle.cql_lexer.specs.declared.token.Keyword.TheVariants.{Not}
use Rattle.cql_parser.specs.Machine.{after_is, want_null, have_predicate}
use Rattle.cql_tree.specs.Views.{syntax_of}
use Rattle.cql_parser.proofs.Turns.{goes_at, is_stays, parses_from}
use Rattle.cql_parser.proofs.descent.parse_is.Goals as goal

pub returns-in-Some-clause-parses : goal.returns-in-Some-clause-parses
returns-in-Some-clause-parses c =
    parses_from (after_is (syntax_of c.args.value.value)) (want_null true (syntax_of c.args.value.value)) have_predicate have_predicate
    (marks c.args.tokens.now) (marks c.in-Some.after.now) c.parse_null.result (λ k. k)
    (λ k. goes_at (after_is (syntax_of c.args.value.value) k) (want_null true (syntax_of c.args.value.value) k) _ (word Not) _ _ refl c.in-Some.ensures.found)
    (λ k s zs. refl) c.parse_null.ensures.parses

pub returns-in-None-clause-parses : goal.returns-in-None-clause-parses
returns-in-None-clause-parses c =
    parses_from (after_is (syntax_of c.args.value.value)) (want_null false (syntax_of c.args.value.value)) have_predicate have_predicate
    (marks c.args.tokens.now) (marks c.args.tokens.now) c.parse_null-in-None.result (λ k. k)
    (λ k. is_stays (syntax_of c.args.value.value) k _ c.in-None.ensures.none) (λ k s zs. refl) c.parse_null-in-None.ensures.parses
