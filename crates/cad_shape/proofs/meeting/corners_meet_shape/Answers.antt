use Rattle.std.proofs.lemmas.Bool.{false≢true}
use Rattle.cad_shape.specs.Edges.{edges_of}
use Rattle.cad_shape.proofs.RestOfRings.{none_meets}
use Rattle.cad_shape.proofs.meeting.corners_meet_shape.Goals as goal

pub returns-in-Spot : goal.returns-in-Spot
returns-in-Spot c = rw c.in-Spot.is (λ t. absurd (false≢true t), λ m. absurd (none_meets (edges_of c.args.corners.now) m))
