use Rattle.std.proofs.Common.{◌≡◌, ◌+◌, ◌<◌, ◌^◌, length, option_map}
use Rattle.cad_run.specs.Owed.{owes, page_after}
use Rattle.cad_run.specs.Slices.{identifier, later}
use Rattle.cad_run.proofs.piecewise.page_in_pieces.Given as goal

abbrev pub invariant-loop-budget : goal.invariant-loop-budget
invariant-loop-budget g l =
    let all = g.O.Opens.features l.features in
    let passes = g.T.CountedTest.passes l.initial.test in
    record {
      owes : owes passes all l.search ≡ page_after passes (option_map identifier l.fn.after) l.limit all;
      same : g.T.CountedTest.passes l.test ≡ passes;
      few : length all < 2 ^ 64 → l.search.examined + length (later (option_map identifier l.search.after) all) < 2 ^ 64;
    }
