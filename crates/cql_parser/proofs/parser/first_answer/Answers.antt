use Rattle.std.proofs.Common.{[], sym, ◌∙◌, ap}
use Rattle.cql_lexer.specs.Mark.{marks}
use Rattle.cql_tree.specs.Views.{syntax_of}
use Rattle.cql_parser.proofs.Ordering.{is_ordered}
use Rattle.cql_parser.proofs.Verdict.{is_reading, answers_at}
use Rattle.cql_parser.proofs.parser.first_answer.Goals as goal

pub returns-in-Ok : goal.returns-in-Ok
returns-in-Ok c =
    rw (← c.as_slice-list.ensures.value, c.into_inner.ensures)
    (sym c.too_deep.ensures ∙ c.in_default.is, is_reading _ _ c.in-Ok.ensures)

pub returns-in-Err-At : goal.returns-in-Err-At
returns-in-Err-At c =
    let stopped = rw c.in-Err-At.field-0-is at c.in-Err-At.ensures in
    answers_at _ _ _ _ _ (ap marks c.as_slice-list.ensures.value) c.fault_at.ensures
    (sym c.too_deep.ensures ∙ c.in_default.is) (stopped tt)

pub invariant_of-result : goal.invariant_of-result
invariant_of-result c = record {
  ordered = rw c.into_inner.ensures
      (is_ordered (marks c.as_slice-list.result.now) [] (syntax_of c.in-Ok.root.value) (is_reading _ _ c.in-Ok.ensures).reads
      (rw c.as_slice-list.ensures.value c.args.tokens.now.ordered));
}
