use Rattle.std.proofs.Common.{◌≡◌, ◌+◌, [], drop, drop_of_length-le, append-nil, sym, ◌∙◌}
use Rattle.cad_shape.specs.Rings.{corners_of, ring_is}
use Rattle.cql_types.specs.inner.Reading.{lines_of}
use Rattle.cql_types.proofs.LiteralLemmas.{lines_from, outlines_more, is_ring_behind}
use Rattle.cql_types.proofs.literal.rings_along.Goals as goal

pub loop-line-preserved : goal.loop-line-preserved
loop-line-preserved c =
    let e = lines_from c.args.lines.now c.loop-line.line-index c.line-item.result c.loop-line-test.true c.line-item.is in
    let made = rw (c.in-Some.is, c.deref.ensures.value) at c.in_ok-ring.ensures in
    rw (c.in_ok-push.ensures.items, outlines_more, made) (rw e at c.loop-line.invariant)

pub returns-in_default : goal.returns-in_default
returns-in_default c = λ all g.
    let e = lines_from c.args.lines.now c.loop-line.line-index c.line-item.result c.loop-line-test.true c.line-item.is in
    let left = rw e at c.loop-line.invariant in
    let found = is_ring_behind c.loop-line.rings.items all (lines_of (drop (c.loop-line.line-index + 1) c.args.lines.now)) (g ∙ sym left) in
    (rw (c.in_default.is, c.deref.ensures.value) at c.in_ok-ring.ensures) (corners_of found.0) found.1 (ring_is found.0)

pub returns : goal.returns
returns c =
    let none_left : drop c.loop-line.line-index c.args.lines.now ≡ [] = drop_of_length-le c.args.lines.now c.loop-line-test.false in
    rw append-nil at (rw none_left at c.loop-line.invariant)
