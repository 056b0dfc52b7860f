use Rattle.cql_lexer.specs.Mark.{marks}
use Rattle.cql_parser.specs.Machine.{run, after_sign, have_whole, whole_slot}
use Rattle.cql_tree.specs.Views.{number_of}
use Rattle.cql_parser.specs.inner.Descent.{want_here, have_here}
use Rattle.cql_parser.proofs.Turns.{sign_goes, whole_stays, whole_of, whole_had, matches_from}
use Rattle.cql_parser.proofs.slot.take_whole.Goals as goal

pub returns-in-Some-clause-takes : goal.returns-in-Some-clause-takes
returns-in-Some-clause-takes c =
    matches_from c.take_digits.result (want_here whole_slot) (after_sign c.in-Some.is_negative)
    (λ a r. run (have_here a (number_of r.0)) (marks r.1.now)) (λ k r. run (have_whole k (number_of r.0)) (marks r.1.now))
    (marks c.args.tokens.now) (marks c.in-Some.after.now) whole_of (λ a. sign_goes _ a _ _ c.in-Some.ensures.found)
    (λ a r. whole_had a _ _) c.take_digits.ensures.takes

pub returns-in-None-clause-takes : goal.returns-in-None-clause-takes
returns-in-None-clause-takes c =
    matches_from c.take_digits-in-None.result (want_here whole_slot) (after_sign _)
    (λ a r. run (have_here a (number_of r.0)) (marks r.1.now)) (λ k r. run (have_whole k (number_of r.0)) (marks r.1.now))
    (marks c.args.tokens.now) (marks c.args.tokens.now) whole_of
    (λ a. whole_stays a _ c.in-None.ensures.no_plus c.in-None.ensures.no_minus)
    (λ a r. whole_had a _ _) c.take_digits-in-None.ensures.takes
