use Rattle.std.proofs.Common.{◌≡◌, ◌+◌, ◌≤◌, length, min}
use Rattle.std.specs.List.Sorted.{IsStrictlySortedBy}
use Rattle.cad_feature.specs.Features.{by_identifier}
use Rattle.cad_run.specs.Owed.{owed, Advances, IsPlaced}
use Rattle.cad_run.proofs.search.Search.go_on.Given as goal

abbrev pub invariant-loop-step : goal.invariant-loop-step
invariant-loop-step g l =
    let left = g.S.CountedSource.left in
    let passes = g.T.CountedTest.passes l.initial.test in
    record {
      owed : owed passes l.self (left l.source) ≡ owed passes l.initial.self (left l.initial.source);
      place : IsPlaced l.initial.self l.self (left l.initial.source) (left l.source);
      onward : Advances l.initial.self l.self l.step (g.S.CountedSource.ahead l.initial.source) (g.S.CountedSource.ahead l.source);
      ascending : IsStrictlySortedBy by_identifier (left l.source);
      few : l.self.examined + length (left l.source) ≤ l.initial.self.examined + length (left l.initial.source);
      limit : l.self.limit ≡ l.initial.self.limit;
      same : g.T.CountedTest.passes l.test ≡ passes;
      steps : g.S.CountedSource.steps l.source ≤ g.S.CountedSource.steps l.initial.source + l.step;
      used : min (g.S.CountedSource.steps l.initial.source + l.step) 18446744073709551615 ≤ g.S.CountedSource.steps l.source;
      tested : g.T.CountedTest.tested l.test ≤ g.T.CountedTest.tested l.initial.test + l.step;
      progress : l.self.examined ≤ l.initial.self.examined + l.step;
    }
