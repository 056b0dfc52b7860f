use Rattle.std.proofs.Common.{◌↔◌, drop}
use Rattle.cad_shape.specs.Edges.{walk}
use Rattle.cad_shape.specs.Regions.{MeetsSome}
use Rattle.cad_shape.proofs.meeting.meets_walk.Given as goal

abbrev pub invariant-loop-corner : goal.invariant-loop-corner
invariant-loop-corner l = MeetsSome l.p l.q (walk l.fn.start l.corners) ↔ MeetsSome l.p l.q (walk l.from (drop l.corner-index l.corners))
