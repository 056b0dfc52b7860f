use Rattle.std.proofs.Common.{◌≡◌, ℕ, ◌+◌, filter, length}
use Rattle.cad_run.specs.Pages.{examined_of}
use Rattle.cad_run.proofs.kept.Kept.kept.Given as goal

abbrev pub invariant-loop-feature : goal.invariant-loop-feature
invariant-loop-feature g l =
    let left = g.S.FeatureSource.left in
    let passes = g.T.FeatureTest.passes l.test in
    record {
      same : filter passes (left l.self.source) ≡ filter passes (left l.initial.self.source);
      counted : (n : ℕ) → l.self.examined + examined_of passes n (left l.self.source) ≡ l.initial.self.examined + examined_of passes n (left l.initial.self.source);
      few : l.self.examined + length (left l.self.source) ≡ l.initial.self.examined + length (left l.initial.self.source);
    }

abbrev pub decreases-loop-feature : goal.decreases-loop-feature
decreases-loop-feature g l = length (g.S.FeatureSource.left l.self.source)
