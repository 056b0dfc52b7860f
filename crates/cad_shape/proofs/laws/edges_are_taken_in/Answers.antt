use Rattle.std.proofs.Common.{inl}
use Rattle.cad_shape.specs.RegionRings.{rings_of}
use Rattle.cad_shape.proofs.HoleLemmas.{on_ring}
use Rattle.cad_shape.proofs.laws.edges_are_taken_in.Goals as goal

pub returns : goal.returns
returns c t region h = inl (on_ring t (rings_of region) h)
