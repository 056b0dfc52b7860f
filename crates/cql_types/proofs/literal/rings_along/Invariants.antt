use Rattle.std.proofs.Common.{◌≡◌, ◌++◌, drop}
use Rattle.cql_types.specs.inner.Reading.{lines_of, outlines_of}
use Rattle.cql_types.proofs.literal.rings_along.Given as goal

-- The lines along the rings so far, and those that are left, are all.
abbrev pub invariant-loop-line : goal.invariant-loop-line
invariant-loop-line l = outlines_of l.rings.items ++ lines_of (drop l.line-index l.lines) ≡ lines_of l.lines
