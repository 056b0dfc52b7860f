use Rattle.std.proofs.Common.{◌≡◌, ◌++◌}
use Rattle.std.specs.Vec.Iter.{into_iter_items}
use Rattle.cql_types.specs.Contract.{parts_judged, operations_judged}
use Rattle.cql_types.specs.Means.{AreSteps, marks_of}
use Rattle.cql_types.specs.Kinds.{first_not, is_whole}
use Rattle.cql_types.proofs.collect.collect_steps.Given as goal

abbrev pub invariant-loop-step : goal.invariant-loop-step
invariant-loop-step l = record {
  rest : l.fn.steps.items ≡ l.yielded ++ into_iter_items l.step-iterator;
  are : AreSteps (operations_judged l.yielded) (parts_judged l.yielded) l.terms.items;
  fit : first_not is_whole (marks_of (parts_judged l.fn.steps.items)) ≡ first_not is_whole (marks_of (parts_judged (into_iter_items l.step-iterator)));
}
