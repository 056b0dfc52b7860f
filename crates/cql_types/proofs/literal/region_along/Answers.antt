use Rattle.cql_types.specs.inner.Reading.{lines_of}
use Rattle.cql_types.proofs.LiteralLemmas.{region_found, rings_denied}
use Rattle.cql_types.proofs.literal.region_along.Goals as goal

pub returns-in_default : goal.returns-in_default
returns-in_default c = rings_denied (lines_of c.args.lines.now) (rw c.in_default.is at c.in_ok-rings.ensures)

pub returns : goal.returns
returns c =
    region_found c.in_ok-found.found c.in-Some.rings (lines_of c.args.lines.now) (rw c.in-Some.is at c.in_ok-rings.ensures) c.in_ok-found.ensures
