use Rattle.std.proofs.Common.{subst, sym}
use Rattle.cad_feature.specs.Features.{AreFeaturesOf}
use Rattle.cad_layer.proofs.SpreadingLemmas.{first_alike, left_listed, others_alike, own_listed, spread_more}
use Rattle.cad_layer.proofs.spreading.spread.Goals as goal

pub with-requires : goal.with-requires
with-requires c =
    subst (λ k. AreFeaturesOf k c.cut_off.new.touched.items) (sym (first_alike _ _ _ c.in-Some.ensures.cases.0 _ c.loop-segment.invariant.alike))
    (subst (AreFeaturesOf c.args.collection) (sym c.in_ok-later.ensures.own) (own_listed c.args.collection c.in-Some.behind.now _ c.loop-segment.invariant.listed))

pub loop-segment-preserved : goal.loop-segment-preserved
loop-segment-preserved c = record {
  so_far = spread_more _ _ _ c.in-Some.ensures.cases.0 _ _ _ c.in_ok-segment.segment _ _ _ c.in_ok-later.ensures.own c.in_ok-later.ensures.left c.in_ok-segment.ensures c.in_ok-push.ensures.items c.loop-segment.invariant.so_far;
  alike = others_alike _ _ _ c.in-Some.ensures.cases.0 _ c.loop-segment.invariant.alike;
  listed = subst (AreFeaturesOf c.args.collection) (sym c.in_ok-later.ensures.left) (left_listed c.args.collection c.in-Some.behind.now _ c.loop-segment.invariant.listed);
}
