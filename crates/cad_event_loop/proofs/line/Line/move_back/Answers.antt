use Rattle.std.proofs.Common.{lit<, arith}
use Rattle.cad_event_loop.proofs.line.Line.move_back.Goals as goal

pub insert-requires : goal.insert-requires
insert-requires c =
    let left = c.remove-first.ensures.len in
    let most = c.len-count.ensures.fits in
    let all = c.len-count.ensures.value in
    let at = c.min-at.ensures in
    (lit< tt, (omega (arith, left, most, all, at), omega (arith, left, most, all)))
