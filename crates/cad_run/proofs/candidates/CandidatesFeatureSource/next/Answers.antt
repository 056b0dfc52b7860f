use Rattle.cad_run.proofs.SourceLemmas.{left_few, left_rises}
use Rattle.cad_run.proofs.candidates.CandidatesFeatureSource.next.Goals as goal

pub invariant_of-self : goal.invariant_of-self
invariant_of-self c = record {
  apart = c.next.ensures.apart;
  in_order = c.next.ensures.ascending;
  ascending = left_rises c.next.result _ _ c.next.ensures.taken c.next.ensures.left c.args.self.now.ascending;
  few = left_few c.next.result _ _ c.next.ensures.taken c.next.ensures.left c.args.self.now.few;
}
