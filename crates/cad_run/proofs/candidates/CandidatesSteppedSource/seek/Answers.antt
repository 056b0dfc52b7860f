use Rattle.std.proofs.Common.{Some}
use Rattle.cad_run.specs.Slices.{identifier}
use Rattle.cad_run.specs.lemmas.TakenLemmas.{few_later, later_rises}
use Rattle.cad_run.proofs.candidates.CandidatesSteppedSource.seek.Goals as goal

pub invariant_of-self : goal.invariant_of-self
invariant_of-self c =
    let last = Some (identifier c.args.last) in
    record {
      apart = c.seek.ensures.apart;
      in_order = later_rises last _ _ c.seek.ensures.ahead c.args.self.now.in_order;
      ascending = later_rises last _ _ c.seek.ensures.left c.args.self.now.ascending;
      few = few_later last _ _ c.seek.ensures.left c.args.self.now.few;
    }
