use Rattle.std.proofs.Common.{[]}
use Rattle.std.proofs.lemmas.List.Elements.{All-head}
use Rattle.cad_shape.specs.Frames.{IsHeld}
use Rattle.cad_shape.proofs.LeastBoxes.{held_more}
use Rattle.cad_shape.proofs.boxes.Bounds.of_segment.Goals as goal

pub returns-clause-from : goal.returns-clause-from
returns-clause-from c = held_more c.at.result c.stretched.result c.args.p c.stretched.ensures.keeps (All-head (IsHeld c.at.result) c.args.p [] c.at.ensures.holds)
