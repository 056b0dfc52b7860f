use Rattle.std.proofs.Common.{◌∙◌, subst, sym}
use Rattle.std.specs.List.Sorted.{IsStrictlySortedBy}
use Rattle.cad_feature.specs.Features.{by_identifier}
use Rattle.cad_run.specs.Sought.{is_sought}
use Rattle.cad_run.proofs.StandingLemmas.{begins_indexed, begins_ordered}
use Rattle.cad_run.proofs.indexed_candidates.IndexedCandidates.of.Goals as goal

pub invariant_of-result : goal.invariant_of-result
invariant_of-result c = record {
  ascending = subst (IsStrictlySortedBy by_identifier) (sym c.features.ensures.features) c.parts.ensures.order.1;
  order = begins_ordered (is_sought c.args.sought) _ _ c.parts.ensures.order _ _ (c.new.ensures ∙ c.in_ok-bases.ensures) (c.new-2.ensures ∙ c.in_ok-olders.ensures);
}

pub returns : goal.returns
returns c =
    begins_indexed (is_sought c.args.sought) _ _ c.parts.ensures.order _ _ (c.new.ensures ∙ c.in_ok-bases.ensures) (c.new-2.ensures ∙ c.in_ok-olders.ensures) _ _ c.features.ensures.features c.parts.ensures.all
