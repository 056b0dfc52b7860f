use Rattle.std.proofs.Common.{◌≡◌, ◌+◌, ◌-◌, ◌≤◌, ◌<◌, ◌^◌, ◌++◌, filter, length}
use Rattle.cad_run.specs.Pages.{examined_of}
use Rattle.cad_run.specs.Slices.{lent}
use Rattle.cad_run.proofs.finding.find.Given as goal

abbrev pub invariant-loop-rows : goal.invariant-loop-rows
invariant-loop-rows g l =
    let left = g.S.FeatureSource.left in
    let passes = g.T.FeatureTest.passes l.test in
    let all = left l.fn.source in
    record {
      same : lent l.rows.items ++ filter passes (left l.kept.source) ≡ filter passes all;
      within : length l.rows.items ≤ l.limit;
      counted : l.kept.examined + examined_of passes (l.limit - length l.rows.items) (left l.kept.source) ≡ examined_of passes l.limit all;
      few : l.kept.examined + length (left l.kept.source) < 2 ^ 64;
    }

abbrev pub decreases-loop-rows : goal.decreases-loop-rows
decreases-loop-rows g l = length (filter (g.T.FeatureTest.passes l.test) (g.S.FeatureSource.left l.kept.source))
