use Rattle.cad_shape.proofs.Fields.{both_hold}
use Rattle.cad_shape.proofs.boxes.Bounds.shares_height.Goals as goal

pub returns-then-self-other : goal.returns-then-self-other
returns-then-self-other c =
    let s = c.args.self in
    let o = c.args.other in
    both_hold s.y_min o.y_max o.y_min s.y_max s.height.0 o.height.1 o.height.0 s.height.1 c.if-self-other.true
