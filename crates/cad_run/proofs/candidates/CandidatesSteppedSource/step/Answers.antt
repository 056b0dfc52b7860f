use Rattle.cad_run.proofs.StepLemmas.{step_few, step_rises}
use Rattle.cad_run.proofs.candidates.CandidatesSteppedSource.step.Goals as goal

pub invariant_of-self : goal.invariant_of-self
invariant_of-self c = record {
  apart = c.step.ensures.apart;
  in_order = c.step.ensures.ascending;
  ascending = step_rises c.step.result _ _ c.step.ensures.step c.step.ensures.left c.args.self.now.ascending;
  few = step_few c.step.result _ _ c.step.ensures.step c.step.ensures.left c.args.self.now.few;
}
