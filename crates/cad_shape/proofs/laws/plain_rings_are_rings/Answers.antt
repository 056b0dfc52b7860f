use Rattle.cad_shape.proofs.PlainRingLemmas.{ring_shown}
use Rattle.cad_shape.proofs.laws.plain_rings_are_rings.Goals as goal

pub returns : goal.returns
returns c = ring_shown
