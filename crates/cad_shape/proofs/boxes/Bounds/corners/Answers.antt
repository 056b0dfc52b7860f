use Rattle.cad_shape.proofs.Fields.{back, frame_is}
use Rattle.cad_shape.proofs.boxes.Bounds.corners.Goals as goal

pub returns : goal.returns
returns c =
    let s = c.args.self in
    let left = back s.x_min s.width.0 in
    let right = back s.x_max s.width.1 in
    let low = back s.y_min s.height.0 in
    let high = back s.y_max s.height.1 in
    frame_is s _ _ _ _ left low right low right high left high
