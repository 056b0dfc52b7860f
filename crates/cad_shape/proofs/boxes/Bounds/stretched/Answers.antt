use Rattle.cad_shape.proofs.Fields.{lower_back, upper_back}
use Rattle.cad_shape.proofs.LeastBoxes.{stretched_in, is_stretched}
use Rattle.cad_shape.proofs.boxes.Bounds.stretched.Goals as goal

pub invariant_of-result : goal.invariant_of-result
invariant_of-result c =
    let s = c.args.self in
    let p = c.args.point in
    record {
      width = stretched_in s.x_min s.x_max p.x _ _ s.width p.x_in_range (lower_back s.x_min p.x _ s.width.0 p.x_in_range c.lower.ensures) (upper_back s.x_max p.x _ s.width.1 p.x_in_range c.upper.ensures);
      height = stretched_in s.y_min s.y_max p.y _ _ s.height p.y_in_range (lower_back s.y_min p.y _ s.height.0 p.y_in_range c.lower-2.ensures) (upper_back s.y_max p.y _ s.height.1 p.y_in_range c.upper-2.ensures);
    }

pub returns : goal.returns
returns c =
    let s = c.args.self in
    let p = c.args.point in
    is_stretched s p _
    (lower_back s.x_min p.x _ s.width.0 p.x_in_range c.lower.ensures)
    (lower_back s.y_min p.y _ s.height.0 p.y_in_range c.lower-2.ensures)
    (upper_back s.x_max p.x _ s.width.1 p.x_in_range c.upper.ensures)
    (upper_back s.y_max p.y _ s.height.1 p.y_in_range c.upper-2.ensures)
