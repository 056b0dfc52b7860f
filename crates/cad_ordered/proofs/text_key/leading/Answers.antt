use Rattle.std.proofs.Common.{arith}
use Rattle.cad_ordered.specs.lemmas.FrontLemmas.{from_fits, front_fits, front_next}
use Rattle.cad_ordered.proofs.text_key.leading.Goals as goal

pub overflow_mul-front : goal.overflow_mul-front
overflow_mul-front c =
    let fits = front_fits c.loop-place.place c.args.bytes.now (omega arith) (from_fits c.args.bytes.now c.type_inv.bytes) in
    omega (arith, fits, c.loop-place.invariant)

pub overflow_add-front : goal.overflow_add-front
overflow_add-front c =
    let fits = front_fits c.loop-place.place c.args.bytes.now (omega arith) (from_fits c.args.bytes.now c.type_inv.bytes) in
    omega (arith, fits, c.loop-place.invariant, c.from.ensures, c.byte_at.ensures)

pub loop-place-preserved : goal.loop-place-preserved
loop-place-preserved c =
    let next = front_next c.loop-place.place c.args.bytes.now in
    omega (arith, next, c.loop-place.invariant, c.from.ensures, c.byte_at.ensures)
