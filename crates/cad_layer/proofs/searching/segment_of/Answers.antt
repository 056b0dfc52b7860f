use Rattle.std.proofs.Common.{arith}
use Rattle.cad_layer.proofs.SearchingLemmas.{goes_apart, goes_on, stops}
use Rattle.cad_layer.proofs.searching.segment_of.Goals as goal

pub returns-then-number-start : goal.returns-then-number-start
returns-then-number-start c =
    stops c.args.object c.args.segments.now c.loop-next.found.now _ _ _ c.in-Some.ensures.cases.0 c.loop-next.invariant.apart c.loop-next.invariant.same (omega (arith, c.number.ensures.value, c.start.ensures, c.if-number-start.true))

pub loop-next-preserved : goal.loop-next-preserved
loop-next-preserved c = record {
  apart = goes_apart c.args.object c.args.segments.now c.loop-next.found.now _ _ _ c.in-Some.ensures.cases.0 c.loop-next.invariant.apart c.loop-next.invariant.same;
  same = goes_on c.args.object c.args.segments.now c.loop-next.found.now _ _ _ c.in-Some.ensures.cases.0 c.loop-next.invariant.apart c.loop-next.invariant.same (omega (arith, c.number.ensures.value, c.start.ensures, c.if-number-start.false));
}
