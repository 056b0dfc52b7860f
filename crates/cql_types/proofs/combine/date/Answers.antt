use Rattle.std.proofs.Common.{refl}
use Rattle.cql_types.specs.Means.{date_node}
use Rattle.cql_types.proofs.combine.date.Goals as goal

pub returns : goal.returns
returns c = record { place = refl; makes = date_node c.in_ok-one.ensures.ok }
