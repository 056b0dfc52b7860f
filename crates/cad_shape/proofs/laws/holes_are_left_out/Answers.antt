use Rattle.std.proofs.Common.{List, subst}
use Rattle.cad_shape.specs.declared.ring.Ring.{Ring}
use Rattle.cad_shape.specs.Polygons.{rings_edges}
use Rattle.cad_shape.specs.Regions.{IsInRegion}
use Rattle.cad_shape.proofs.HoleLemmas.{left_out}
use Rattle.cad_shape.proofs.laws.holes_are_left_out.Goals as goal

pub returns : goal.returns
returns c t region outer hole before after e o h b a k = left_out t outer hole before after o h b a (subst (λ (rings : List Ring). IsInRegion t (rings_edges rings)) e k)
