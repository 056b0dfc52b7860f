use Rattle.std.proofs.Common.{inl, inr}
use Rattle.cad_shape.proofs.Fields.{out_back}
use Rattle.cad_shape.proofs.Overlaps.{beside_misses}
use Rattle.cad_shape.proofs.segment.is_beside.Goals as goal

pub returns-then-out_of : goal.returns-then-out_of
returns-then-out_of c = λ t p q hp hq.
    let b = c.args.bounds in
    let r = c.args.r in
    let s = c.args.s in
    beside_misses b p q r s (inl (out_back b.x_min b.x_max r.x s.x b.width.0 b.width.1 r.x_in_range s.x_in_range (c.out_of.ensures.0 t))) hp hq

pub returns-else-out_of : goal.returns-else-out_of
returns-else-out_of c = λ t p q hp hq.
    let b = c.args.bounds in
    let r = c.args.r in
    let s = c.args.s in
    beside_misses b p q r s (inr (out_back b.y_min b.y_max r.y s.y b.height.0 b.height.1 r.y_in_range s.y_in_range (c.out_of-else-out_of.ensures.0 t))) hp hq
