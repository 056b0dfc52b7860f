use Rattle.std.proofs.Common.{◌∙◌}
use Rattle.std.proofs.lemmas.Result.{err_from_is_err_and}
use Rattle.cql_lexer.specs.Mark.{marks}
use Rattle.cql_parser.specs.Machine.{whole_slot}
use Rattle.cql_tree.specs.Views.{number_of}
use Rattle.cql_parser.specs.inner.Descent.{want_here, want_corner}
use Rattle.cql_parser.proofs.Turns.{corner_begins, corner_halves, corner_ends, first_of, second_of, stops_from}
use Rattle.cql_parser.proofs.slot.take_corner.Goals as goal

pub returns-in_err-x-clause-takes : goal.returns-in_err-x-clause-takes
returns-in_err-x-clause-takes c =
    let p = err_from_is_err_and c.from_residual.result c.from_residual.ensures.1 in
    rw (p.1, p.2)
    (stops_from want_corner (want_here whole_slot) (marks c.args.tokens.now) (marks c.args.tokens.now) c.in_err-x.field-0.0 first_of
    (λ k. corner_begins k _) c.in_err-x.ensures.takes)

pub returns-in_err-y-clause-takes : goal.returns-in_err-y-clause-takes
returns-in_err-y-clause-takes c =
    let p = err_from_is_err_and c.from_residual-in_err-y.result c.from_residual-in_err-y.ensures.1 in
    rw (p.1, p.2)
    (stops_from want_corner (want_here whole_slot) (marks c.args.tokens.now) (marks c.in_ok-x.after.now) c.in_err-y.field-0.0 (second_of (number_of c.in_ok-x.x))
    (λ k. corner_begins k _ ∙ (c.in_ok-x.ensures.takes (first_of k) ∙ corner_halves k _ _)) c.in_err-y.ensures.takes)

pub returns-clause-takes : goal.returns-clause-takes
returns-clause-takes c =
    λ k. (corner_begins k _ ∙ (c.in_ok-x.ensures.takes (first_of k) ∙ corner_halves k _ _)) ∙ (c.in_ok-y.ensures.takes (second_of _ k) ∙ corner_ends k _ _)
