use Rattle.std.proofs.Common.{◌≡◌, ap, ◌∙◌}
use Rattle.std.proofs.lemmas.List.{append-nil}
use Rattle.cad_shape.specs.Edges.{edges_of}
use Rattle.cad_shape.specs.Polygons.{rings_edges}
use Rattle.cad_shape.specs.RegionRings.{region_edges}
use Rattle.cad_shape.specs.Rings.{corners_of}
use Rattle.cad_shape.proofs.laws.one_ring_is_the_region.Goals as goal

pub returns : goal.returns
returns c t region ring e =
    let same : region_edges region ≡ edges_of (corners_of ring) = ap rings_edges e ∙ append-nil (edges_of (corners_of ring)) in
    rw same (λ h. h, λ h. h)
