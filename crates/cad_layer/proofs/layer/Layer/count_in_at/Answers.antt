use Rattle.std.proofs.Common.{ap, arith, length}
use Rattle.cad_layer.specs.Segments.{joined}
use Rattle.cad_layer.proofs.layer.Layer.count_in_at.Goals as goal

pub count_all_at-requires : goal.count_all_at-requires
count_all_at-requires c = omega (arith, ap (λ l. length (joined l)) c.listed.ensures, c.self.invariant.3)
