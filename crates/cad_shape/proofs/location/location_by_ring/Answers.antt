use Rattle.std.proofs.lemmas.Bool.{false≢true}
use Rattle.cad_shape.specs.Edges.{edges_of}
use Rattle.cad_shape.specs.Rings.{corners_of}
use Rattle.cad_shape.proofs.Inside.{in_bounds}
use Rattle.cad_shape.proofs.LocationLemmas.{outside_from}
use Rattle.cad_shape.proofs.location.location_by_ring.Goals as goal

pub returns-then-not-holds : goal.returns-then-not-holds
returns-then-not-holds c =
    let t = c.args.point in
    let corners = corners_of c.args.ring.now in
    outside_from t (edges_of corners) (λ h. false≢true (c.if-not-holds.ensures.1 (in_bounds c.bounds.result t corners c.bounds.ensures.holds h)))
