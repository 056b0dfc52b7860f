use Rattle.cad_shape.proofs.Fields.{both_hold}
use Rattle.cad_shape.proofs.boxes.Bounds.covers_width.Goals as goal

pub returns-then-self-other : goal.returns-then-self-other
returns-then-self-other c =
    let s = c.args.self in
    let o = c.args.other in
    both_hold s.x_min o.x_min o.x_max s.x_max s.width.0 o.width.0 o.width.1 s.width.1 c.if-self-other.true
