use Rattle.std.proofs.Common.{sym, ◌∙◌}
use Rattle.cql_types.specs.Means.{compare_flag}
use Rattle.cql_types.proofs.combine.compare_flag.Goals as goal

pub returns : goal.returns
returns c left p e = rw c.condition.ensures (record { place = p; makes = compare_flag (sym c.tests_equality.ensures ∙ c.if-not-tests_equality.false) e c.in_ok-right.ensures.ok })
