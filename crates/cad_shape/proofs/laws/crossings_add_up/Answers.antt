use Rattle.cad_shape.specs.Edges.{edges_of}
use Rattle.cad_shape.specs.Polygons.{rings_edges}
use Rattle.cad_shape.specs.Rings.{corners_of}
use Rattle.cad_shape.proofs.Walks.{crossings-append}
use Rattle.cad_shape.proofs.laws.crossings_add_up.Goals as goal

pub returns : goal.returns
returns c t ring rings = crossings-append t (edges_of (corners_of ring)) (rings_edges rings)
