use Rattle.std.proofs.Common.{ap, arith, length}
use Rattle.cad_layer.specs.Segments.{joined}
use Rattle.cad_layer.proofs.layer.Layer.count_in.Goals as goal

pub count_all-requires : goal.count_all-requires
count_all-requires c = omega (arith, ap (λ l. length (joined l)) c.listed.ensures, c.self.invariant.3)
