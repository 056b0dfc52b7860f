use Rattle.cad_shape.proofs.SharedPoints.{meet_exchanged, meet_turned}
use Rattle.cad_shape.proofs.laws.segments_meet_either_way.Goals as goal

pub returns : goal.returns
returns c p q r s m = (meet_exchanged p q r s m, meet_turned p q r s m)
