use Rattle.std.proofs.Common.{◌≡◌, ◌++◌, drop}
use Rattle.cql_types.specs.Literals.{coordinates_of}
use Rattle.cql_types.specs.inner.Reading.{positions_of}
use Rattle.cql_types.proofs.literal.points_along.Given as goal

-- The points so far, and the positions that are left, are all.
abbrev pub invariant-loop-position : goal.invariant-loop-position
invariant-loop-position l = coordinates_of l.points.items ++ positions_of (drop l.position-index l.line) ≡ positions_of l.line
