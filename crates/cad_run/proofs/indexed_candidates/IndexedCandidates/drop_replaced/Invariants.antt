use Rattle.std.proofs.Common.{◌≡◌, length}
use Rattle.cad_run.specs.Bases.{rows_left}
use Rattle.cad_run.specs.Peeked.{peeked_left}
use Rattle.cad_run.specs.IndexedLeft.{indexed_left}
use Rattle.cad_run.proofs.indexed_candidates.IndexedCandidates.drop_replaced.Given as goal

abbrev pub invariant-loop-feature : goal.invariant-loop-feature
invariant-loop-feature l = record {
  left : indexed_left l.self ≡ indexed_left l.initial.self;
}

abbrev pub decreases-loop-feature : goal.decreases-loop-feature
decreases-loop-feature l = length (peeked_left rows_left l.self.bases)
