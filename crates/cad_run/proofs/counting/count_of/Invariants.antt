use Rattle.std.proofs.Common.{◌≡◌, ◌+◌, length}
use Rattle.cad_run.proofs.counting.count_of.Given as goal

abbrev pub invariant-loop-source : goal.invariant-loop-source
invariant-loop-source g l =
    let left = g.S.FeatureSource.left in
    l.count + length (left l.source) ≡ length (left l.fn.source)

abbrev pub decreases-loop-source : goal.decreases-loop-source
decreases-loop-source g l = length (g.S.FeatureSource.left l.source)
