use Rattle.cql_types.specs.inner.Reading.{positions_of}
use Rattle.cql_types.proofs.LiteralLemmas.{ring_found}
use Rattle.cql_types.proofs.literal.ring_along.Goals as goal

pub returns : goal.returns
returns c = ring_found c.ring_closed.result c.in-Some.points.items (positions_of c.args.line.now) (rw c.in-Some.is at c.in_ok-points.ensures) c.ring_closed.ensures
