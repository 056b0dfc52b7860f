use Rattle.cad_shape.proofs.Fields.{both_hold}
use Rattle.cad_shape.proofs.boxes.Bounds.covers_height.Goals as goal

pub returns-then-self-other : goal.returns-then-self-other
returns-then-self-other c =
    let s = c.args.self in
    let o = c.args.other in
    both_hold s.y_min o.y_min o.y_max s.y_max s.height.0 o.height.0 o.height.1 s.height.1 c.if-self-other.true
