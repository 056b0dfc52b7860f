use Rattle.cad_shape.proofs.ShapeLemmas.{frame_least}
use Rattle.cad_shape.proofs.shape.ShapeRef.bounds.Goals as goal

pub returns-in-Frame : goal.returns-in-Frame
returns-in-Frame c = rw c.in-Frame.is (frame_least c.in-Frame.bounds)
