use Rattle.cad_shape.specs.Rings.{no_ring}
use Rattle.cad_sample.proofs.values.ring.Goals as goal

pub unreachable-requires : goal.unreachable-requires
unreachable-requires c =
    no_ring _ _ c.in-Err.ensures.0 (c.plain_rings_are_rings.ensures _ (rw c.in_ok-corners.ensures c.requires))
