use Rattle.std.proofs.Common.{◌≡◌, ◌+◌, pos, [], drop, drop_of_length-le, append-nil, sym, ◌∙◌}
use Rattle.cql_types.specs.inner.Reading.{positions_of}
use Rattle.cql_types.proofs.LiteralLemmas.{positions_at, coordinates_more, is_coordinate_behind}
use Rattle.cql_types.proofs.literal.points_along.Goals as goal

pub loop-position-preserved : goal.loop-position-preserved
loop-position-preserved c =
    let e = positions_at c.args.line.now c.loop-position.position-index (record { x = pos 0; y = pos 0 }) c.loop-position-test.true in
    let made = rw c.in-Some.is at c.point_at.ensures in
    rw (c.in_ok-push.ensures.items, coordinates_more, made.0, made.1) (rw e at c.loop-position.invariant)

pub returns-in_default : goal.returns-in_default
returns-in_default c = λ all g.
    let e = positions_at c.args.line.now c.loop-position.position-index (record { x = pos 0; y = pos 0 }) c.loop-position-test.true in
    let left = rw e at c.loop-position.invariant in
    (rw c.in_default.is at c.point_at.ensures) (is_coordinate_behind c.loop-position.points.items all (positions_of (drop (c.loop-position.position-index + 1) c.args.line.now)) (g ∙ sym left))

pub returns : goal.returns
returns c =
    let none_left : drop c.loop-position.position-index c.args.line.now ≡ [] = drop_of_length-le c.args.line.now c.loop-position-test.false in
    rw append-nil at (rw none_left at c.loop-position.invariant)
