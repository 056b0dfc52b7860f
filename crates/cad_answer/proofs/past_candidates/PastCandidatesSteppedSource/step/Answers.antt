use Rattle.std.proofs.Common.{refl}
use Rattle.cad_answer.specs.inner.PastLeft.{past_ascends, past_left}
use Rattle.cad_run.specs.lemmas.AheadLemmas.{among_same, first_goes_on}
use Rattle.cad_answer.proofs.past_candidates.PastCandidatesSteppedSource.step.Goals as goal

pub returns-in-Some-clause-onward : goal.returns-in-Some-clause-onward
returns-in-Some-clause-onward c =
    let old = c.args.self.now in
    first_goes_on c.in-Some.feature.now (past_left old) (past_left old) _ (rw c.in-Some.is at c.in_ok-first.ensures) (past_ascends old) (among_same (past_left old) (past_left old) refl)
