use Rattle.std.proofs.Common.{arith, length-drop}
use Rattle.cad_io.specs.lemmas.WritingLemmas.{appends_more}
use Rattle.cad_io.proofs.writing.write_whole.Goals as goal

pub loop-done-preserved : goal.loop-done-preserved
loop-done-preserved g c =
    let told = rw (c.rest_from.ensures) at c.in-Ok.ensures.bytes in
    let few = rw (c.rest_from.ensures) at c.in-Ok.ensures.bound in
    let done = c.loop-done.done in
    record {
      within = omega (arith, few, length-drop c.loop-done.done c.args.bytes.now);
      written = appends_more _ _ _ c.args.bytes.now c.loop-done.done c.in-Ok.count c.loop-done.invariant.written told;
    }
