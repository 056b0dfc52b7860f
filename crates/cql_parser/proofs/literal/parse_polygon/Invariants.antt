use Rattle.std.proofs.Common.{◌≡◌, ◌<◌, length}
use Rattle.cql_lexer.specs.Mark.{marks}
use Rattle.cql_parser.specs.Machine.{ForPrimary, have_rings, run}
use Rattle.cql_tree.specs.Views.{rings_of}
use Rattle.cql_parser.specs.inner.Descent.{want_rings}
use Rattle.cql_parser.proofs.literal.parse_polygon.Given as goal

abbrev pub invariant-loop-after : goal.invariant-loop-after
invariant-loop-after l = record {
  shorter : length l.rest < length l.tokens;
  reads : (k : ForPrimary) →
      run (want_rings l.place k) (marks l.tokens) ≡ run (have_rings l.place (rings_of l.rings.items) k) (marks l.rest);
}

abbrev pub decreases-loop-after : goal.decreases-loop-after
decreases-loop-after l = length l.rest
