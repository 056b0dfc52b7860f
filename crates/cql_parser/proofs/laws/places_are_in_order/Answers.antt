use Rattle.std.proofs.Common.{[]}
use Rattle.cql_parser.proofs.Ordering.{is_ordered}
use Rattle.cql_parser.proofs.laws.places_are_in_order.Goals as goal

pub returns : goal.returns
returns c = λ tokens tree reads ascend. is_ordered tokens [] tree reads ascend
