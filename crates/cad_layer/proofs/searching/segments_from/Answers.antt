use Rattle.std.proofs.Common.{arith}
use Rattle.cad_layer.proofs.SearchingLemmas.{behind_apart, goes_past}
use Rattle.cad_layer.proofs.searching.segments_from.Goals as goal

pub loop-segment-preserved : goal.loop-segment-preserved
loop-segment-preserved c =
    let l = c.loop-segment in
    let are = c.in-Some.ensures.cases.0 in
    let is = c.in-Some-split_first.ensures.cases.0 in
    record {
      apart = behind_apart c.args.object c.in-Some._segment.now c.in-Some-split_first.next.now l.rest.now c.in-Some.behind.now c.in-Some-split_first._others.now are is l.invariant.apart;
      after = λ number. goes_past c.args.object c.in-Some._segment.now c.in-Some-split_first.next.now l.rest.now c.in-Some.behind.now c.in-Some-split_first._others.now are is l.invariant.apart number _
          (omega (arith, c.number.ensures.value, c.start.ensures, c.if-number-start.false)) (l.invariant.after number);
    }
