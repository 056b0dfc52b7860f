use Rattle.std.proofs.Common.{◌≡◌, length}
use Rattle.cad_history.specs.inner.Ending.{is_in_none}
use Rattle.cad_history.proofs.ending.is_in_none.Given as goal

abbrev pub invariant-loop-layer : goal.invariant-loop-layer
invariant-loop-layer l = is_in_none l.fn.layers l.feature ≡ is_in_none l.rest l.feature

abbrev pub decreases-loop-layer : goal.decreases-loop-layer
decreases-loop-layer l = length l.rest
