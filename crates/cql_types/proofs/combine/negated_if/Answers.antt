use Rattle.cql_types.specs.Means.{as_it_is, negated}
use Rattle.cql_types.proofs.combine.negated_if.Goals as goal

pub returns-in_ok-new : goal.returns-in_ok-new
returns-in_ok-new c = rw c.if-is_negated.true (negated _ c.in_ok-new.ensures.ok)

pub returns-else-is_negated : goal.returns-else-is_negated
returns-else-is_negated c = rw c.if-is_negated.false as_it_is
