use Rattle.std.proofs.Common.{◌∙◌, arith}
use Rattle.cad_run.proofs.PlaceLemmas.{advances_on, owed_on}
use Rattle.cad_run.proofs.search.Search.go_on.Goals as goal

pub loop-step-preserved : goal.loop-step-preserved
loop-step-preserved g c =
    let was = c.loop-step.invariant in
    let told = c.in_ok-one_step.ensures in
    let steps = told.steps in
    let tested = told.tested in
    let progress = told.progress in
    let few = told.few in
    record {
      owed = owed_on _ _ was.same c.args.self.now c.loop-step.self c.one_step.new.self _ _ _ (rw c.in-Part.is at told.owed) was.owed;
      place = λ all is. (rw c.in-Part.is at told.place) all (was.place all is);
      onward = advances_on c.args.self.now c.loop-step.self c.one_step.new.self c.loop-step.step _ _ _ was.onward (rw c.in-Part.is at told.onward);
      ascending = told.ascending;
      few = omega (arith, few, was.few);
      limit = told.limit ∙ was.limit;
      same = told.same ∙ was.same;
      steps = omega (arith, steps, was.steps);
      used = omega (arith, steps, was.used);
      tested = omega (arith, tested, was.tested);
      progress = omega (arith, progress, was.progress);
    }

pub returns-clause-onward : goal.returns-clause-onward
returns-clause-onward g c = λ all among.
    let told = c.loop-step.invariant.onward all among in
    let fewer = told.1 in
    (told.0, omega (arith, fewer))
