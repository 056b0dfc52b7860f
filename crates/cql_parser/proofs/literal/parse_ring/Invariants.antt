use Rattle.std.proofs.Common.{◌≡◌, ◌<◌, length}
use Rattle.cql_lexer.specs.Mark.{marks}
use Rattle.cql_parser.specs.Machine.{ForPrimary, run}
use Rattle.cql_tree.specs.Views.{numbers_of}
use Rattle.cql_parser.specs.inner.Descent.{want_ring, have_corners}
use Rattle.cql_parser.proofs.literal.parse_ring.Given as goal

abbrev pub invariant-loop-after : goal.invariant-loop-after
invariant-loop-after l = record {
  shorter : length l.rest < length l.tokens;
  reads : (k : ForPrimary) → run (want_ring k) (marks l.tokens) ≡ run (have_corners (numbers_of l.corners.items) k) (marks l.rest);
}

abbrev pub decreases-loop-after : goal.decreases-loop-after
decreases-loop-after l = length l.rest
