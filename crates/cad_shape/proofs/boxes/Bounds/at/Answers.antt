use Rattle.cad_shape.proofs.Fields.{back_x, back_y}
use Rattle.cad_shape.proofs.LeastBoxes.{at_least}
use Rattle.cad_shape.proofs.boxes.Bounds.at.Goals as goal

pub returns : goal.returns
returns c = let p = c.args.point in at_least _ p (back_x p) (back_y p) (back_x p) (back_y p)
