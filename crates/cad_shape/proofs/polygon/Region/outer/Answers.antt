use Rattle.std.proofs.Common.{sym}
use Rattle.cad_shape.specs.RegionRings.{rings_of}
use Rattle.cad_shape.proofs.RegionLemmas.{ring_is_at}
use Rattle.cad_shape.proofs.polygon.Region.outer.Goals as goal

pub returns : goal.returns
returns c = sym (ring_is_at (rings_of c.args.self.now) 0 c.index-rings-0.result c.args.self.now.some cc)
