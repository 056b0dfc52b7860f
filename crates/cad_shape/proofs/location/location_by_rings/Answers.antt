use Rattle.std.proofs.Common.{◌+◌, drop}
use Rattle.cad_shape.specs.Edges.{Edge, edges_of}
use Rattle.cad_shape.specs.Polygons.{rings_edges}
use Rattle.cad_shape.specs.Regions.{IsOnEdge, crossings}
use Rattle.cad_shape.specs.Rings.{corners_of}
use Rattle.cad_shape.proofs.LocationLemmas.{odd_step, even_step}
use Rattle.cad_shape.proofs.RestOfRings.{some_edge, crossings_on, none_here, one_here}
use Rattle.cad_shape.proofs.location.location_by_rings.Goals as goal
use Rattle.cad_shape.proofs.location.location_by_rings.Goals.{in-Interior, in-Exterior}

pub returns-in-Boundary : goal.returns-in-Boundary
returns-in-Boundary c =
    let t = c.args.point in
    let p = some_edge (λ (e : Edge). IsOnEdge t e.from e.to) c.args.rings.now c.loop-ring.ring-index c.ring-item.result c.loop-ring-test.true c.ring-item.is in
    one_here c.loop-ring.invariant.walked p c.in-Boundary.ensures

pub loop-ring-preserved : goal.loop-ring-preserved
loop-ring-preserved c =
    let t = c.args.point in
    let rings = c.args.rings.now in
    let i = c.loop-ring.ring-index in
    let p = some_edge (λ (e : Edge). IsOnEdge t e.from e.to) rings i c.ring-item.result c.loop-ring-test.true c.ring-item.is in
    let n = crossings_on t rings i c.ring-item.result c.loop-ring-test.true c.ring-item.is in
    let here = crossings t (edges_of (corners_of c.ring-item.result)) in
    let rest = crossings t (rings_edges (drop (i + 1) rings)) in
    let k = rw n at c.loop-ring.invariant.counted in
    elim c.match-location_by_ring.branch [
      | in-Interior w ↦ record {
        walked = none_here c.loop-ring.invariant.walked p w.in-Interior.ensures.0;
        counted = odd_step (crossings t (rings_edges rings)) here rest c.loop-ring.odd c.match-location_by_ring.odd w.odd-is k w.in-Interior.ensures.1;
      }
      | in-Exterior w ↦ record {
        walked = none_here c.loop-ring.invariant.walked p w.in-Exterior.ensures.0;
        counted = even_step (crossings t (rings_edges rings)) here rest c.loop-ring.odd c.match-location_by_ring.odd w.odd-is k w.in-Exterior.ensures.1;
      }
    ]
