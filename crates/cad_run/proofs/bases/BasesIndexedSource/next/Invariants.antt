use Rattle.std.proofs.Common.{◌≡◌, length}
use Rattle.cad_positions.specs.AllRows.{rows_of}
use Rattle.cad_positions.specs.Rest.{left_in}
use Rattle.cad_run.specs.Bases.{rows_left}
use Rattle.cad_run.proofs.bases.BasesIndexedSource.next.Given as goal

abbrev pub invariant-loop-row : goal.invariant-loop-row
invariant-loop-row l = record {
  same : rows_left l.self ≡ rows_left l.initial.self;
  features : l.self.features ≡ l.initial.self.features;
  revision : l.self.revision ≡ l.initial.self.revision;
}

abbrev pub decreases-loop-row : goal.decreases-loop-row
decreases-loop-row l = length (rows_of (left_in l.self.rows))
