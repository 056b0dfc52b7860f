use Rattle.std.proofs.Common.{◌∙◌}
use Rattle.cad_run.proofs.LeftLemmas.{begins_in_order, begins_passing, begins_with}
use Rattle.cad_run.specs.Sought.{is_sought}
use Rattle.cad_run.proofs.segment_candidates.SegmentCandidates.of.Goals as goal

pub invariant_of-result : goal.invariant_of-result
invariant_of-result c = record {
  order = begins_in_order (is_sought c.args.sought) _ _ _ (c.new.ensures ∙ c.in_ok-bases.ensures) c.parts.ensures.order;
  passing = begins_passing (is_sought c.args.sought) _ _ _ (c.new.ensures ∙ c.in_ok-bases.ensures) c.parts.ensures.order;
}

pub returns : goal.returns
returns c = begins_with (is_sought c.args.sought) _ _ _ (c.new.ensures ∙ c.in_ok-bases.ensures) c.parts.ensures.order _ c.parts.ensures.all
