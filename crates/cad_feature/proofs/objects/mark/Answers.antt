use Rattle.std.proofs.Common.{◌++◌, replicate, ap, ◌∙◌, arith}
use Rattle.cad_feature.proofs.StretchLemmas.{filled_more}
use Rattle.cad_feature.proofs.objects.mark.Goals as goal

pub loop-next-preserved : goal.loop-next-preserved
loop-next-preserved c = record {
  filled = filled_more c.args.starts.now.items c.loop-next.starts.items _ c.args.position c.loop-next._next (omega (arith, c.loop-next.auto._next, c.len-next.ensures)) c.loop-next.invariant.filled c.in_ok-push.ensures.items;
  no_more = omega (arith, c.loop-next-test.true);
}

pub returns : goal.returns
returns c = c.loop-next.invariant.filled ∙ ap (λ n. c.args.starts.now.items ++ replicate n c.args.position) (omega (arith, c.loop-next.invariant.no_more, c.loop-next-test.false))
