use Rattle.std.proofs.Common.{◌≡◌, ◌+◌, [], drop, drop_of_length-le, append-nil}
use Rattle.std.proofs.lemmas.Result.{err_from_is_err_and}
use Rattle.cql_types.specs.Literals.{no_number}
use Rattle.cql_types.proofs.LiteralLemmas.{numbers_from, numbers_more, positions_more, fault_after, fault_along, of_corner}
use Rattle.cql_types.proofs.literal.read_line.Goals as goal

pub loop-corner-preserved : goal.loop-corner-preserved
loop-corner-preserved c =
    let e = numbers_from c.args.corners.now c.loop-corner.corner-index c.corner-item.result c.loop-corner-test.true c.corner-item.is in
    let rest = drop (c.loop-corner.corner-index + 1) c.args.corners.now in
    record {
      completes = λ zs h. rw (c.in_ok-push.ensures.items, positions_more)
          (c.loop-corner.invariant.completes _ (rw e (numbers_more c.corner-item.result rest c.in_ok-read_position.ensures h)));
      first = λ f h. c.loop-corner.invariant.first f (rw e (fault_after c.corner-item.result rest f c.in_ok-read_position.ensures h));
    }

pub returns-in_err-read_position : goal.returns-in_err-read_position
returns-in_err-read_position c =
    let e = numbers_from c.args.corners.now c.loop-corner.corner-index c.corner-item.result c.loop-corner-test.true c.corner-item.is in
    let rest = drop (c.loop-corner.corner-index + 1) c.args.corners.now in
    let p = err_from_is_err_and c.from_residual.result c.from_residual.ensures.1 in
    rw (p.1, p.2) (fault_along c.in_err-read_position.field-0.0 c.loop-corner.invariant.first (rw e (of_corner c.corner-item.result rest c.in_err-read_position.field-0.0 c.in_err-read_position.ensures)))

pub returns : goal.returns
returns c =
    let none_left : drop c.loop-corner.corner-index c.args.corners.now ≡ [] = drop_of_length-le c.args.corners.now c.loop-corner-test.false in
    rw append-nil at (c.loop-corner.invariant.completes [] (rw none_left no_number))
