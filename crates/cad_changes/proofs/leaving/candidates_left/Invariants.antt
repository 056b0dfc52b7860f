use Rattle.std.proofs.Common.{◌≡◌, ◌++◌, length}
use Rattle.cad_lookup.specs.Candidates.{candidates}
use Rattle.cad_run.specs.Left.{candidates_left}
use Rattle.cad_changes.specs.Touching.{items_left}
use Rattle.cad_changes.proofs.leaving.candidates_left.Given as goal

abbrev pub invariant-loop-left : goal.invariant-loop-left
invariant-loop-left l = items_left l.command l.features.collection (candidates l.plan l.features.features) ≡ l.all.items ++ items_left l.command l.features.collection (candidates_left l.left)

abbrev pub decreases-loop-left : goal.decreases-loop-left
decreases-loop-left l = length (candidates_left l.left)
