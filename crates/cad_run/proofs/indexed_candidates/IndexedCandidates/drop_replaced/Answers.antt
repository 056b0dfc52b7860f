use Rattle.std.proofs.Common.{subst, sym}
use Rattle.std.specs.List.Sorted.{IsStrictlySortedBy}
use Rattle.cad_feature.specs.Features.{by_identifier}
use Rattle.cad_run.proofs.FrontLemmas.{taken_rises}
use Rattle.cad_run.proofs.indexed_candidates.IndexedCandidates.drop_replaced.Goals as goal

pub invariant_of-self-in-Some : goal.invariant_of-self-in-Some
invariant_of-self-in-Some c =
    record {
      ascending = c.loop-feature.self.ascending;
      order = (taken_rises c.next.result _ _ c.next.ensures (subst (IsStrictlySortedBy by_identifier) (sym c.peek.ensures.kept) c.loop-feature.self.order.0), c.loop-feature.self.order.1);
    }
