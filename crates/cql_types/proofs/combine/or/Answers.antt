use Rattle.std.proofs.Common.{refl}
use Rattle.cql_types.specs.Means.{disjunction}
use Rattle.cql_types.proofs.combine.or.Goals as goal

pub returns : goal.returns
returns c = rw c.condition.ensures (record { place = refl; makes = disjunction _ c.in_ok-gather.ensures.ok })
