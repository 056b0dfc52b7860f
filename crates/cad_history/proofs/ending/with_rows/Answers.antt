use Rattle.std.proofs.Common.{subst, sym}
use Rattle.cad_feature.specs.Features.{AreFeaturesOf}
use Rattle.cad_history.proofs.EndingLemmas.{first_alike, others_alike, absent_listed, present_listed, with_more}
use Rattle.cad_history.proofs.ending.with_rows.Goals as goal

pub with-requires : goal.with-requires
with-requires c =
    subst (λ k. AreFeaturesOf k c.in_ok-absent.absent.items) (sym (first_alike c.args.collection _ _ _ c.in-Some.ensures.cases.0 c.loop-layer.invariant.alike))
    (absent_listed c.args.collection _ _ _ c.in-Some.ensures.cases.0 c.loop-layer.left.items _ c.in_ok-absent.ensures.absent c.loop-layer.invariant.listed)

pub loop-layer-preserved : goal.loop-layer-preserved
loop-layer-preserved c = record {
  so_far = with_more c.args.collection _ _ _ c.in-Some.ensures.cases.0 _ _ _ c.in_ok-with.field-0 c.loop-layer.left.items _ _ c.in_ok-absent.ensures.absent c.in_ok-absent.ensures.present c.in_ok-with.ensures c.in_ok-push.ensures.items c.loop-layer.invariant.so_far;
  alike = others_alike c.args.collection _ _ _ c.in-Some.ensures.cases.0 c.loop-layer.invariant.alike;
  listed = present_listed c.args.collection _ _ _ c.in-Some.ensures.cases.0 c.loop-layer.left.items _ c.in_ok-absent.ensures.present c.loop-layer.invariant.listed;
}
