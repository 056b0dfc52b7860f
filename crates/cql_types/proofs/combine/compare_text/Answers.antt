use Rattle.cql_types.specs.Means.{compare_text}
use Rattle.cql_types.proofs.combine.compare_text.Goals as goal

pub returns : goal.returns
returns c left p e = rw c.condition.ensures (record { place = p; makes = compare_text e c.in_ok-right.ensures.ok })
