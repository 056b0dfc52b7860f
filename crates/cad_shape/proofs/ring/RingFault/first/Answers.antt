use Rattle.std.proofs.Common.{arith}
use Rattle.cad_shape.proofs.Walks.{length-edges}
use Rattle.cad_shape.proofs.ring.RingFault.first.Goals as goal

pub overflow_cast-result : goal.overflow_cast-result
overflow_cast-result c =
    let within = c.in-Some.ensures.within in
    let ordered = c.in-Some.ensures.ordered in
    record { fits = omega (arith, length-edges c.args.corners.now) }

pub overflow_cast-result-in-Some : goal.overflow_cast-result-in-Some
overflow_cast-result-in-Some c =
    let within = c.in-Some.ensures.within in
    record { fits = omega (arith, length-edges c.args.corners.now) }
