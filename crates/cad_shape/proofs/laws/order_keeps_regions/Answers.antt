use Rattle.cad_shape.proofs.LawLemmas.{order_region}
use Rattle.cad_shape.proofs.laws.order_keeps_regions.Goals as goal

pub returns : goal.returns
returns c = order_region
