use Rattle.std.proofs.Common.{◌≡◌, ◌+◌, [], drop, drop_of_length-le, append-nil}
use Rattle.std.proofs.lemmas.Result.{err_from_is_err_and}
use Rattle.cql_tree.specs.Syntax.{parts_of}
use Rattle.cql_tree.specs.Views.{numbers_of, rings_of}
use Rattle.cql_types.specs.inner.Reading.{no_line, one_line}
use Rattle.cql_types.proofs.LiteralLemmas.{rings_from, lines_more, fault_behind_ring, fault_in_ring, fault_along}
use Rattle.cql_types.proofs.literal.read_lines.Goals as goal

pub loop-ring-preserved : goal.loop-ring-preserved
loop-ring-preserved c =
    let e = rings_from c.args.rings.now c.loop-ring.ring-index c.ring-item.result c.loop-ring-test.true c.ring-item.is in
    let numbers = parts_of (numbers_of c.ring-item.result.corners.items) in
    let rest = parts_of (rings_of (drop (c.loop-ring.ring-index + 1) c.args.rings.now)) in
    let read = rw c.deref.ensures.value at c.in_ok-read_line.ensures in
    record {
      completes = λ zs h. rw (c.in_ok-push.ensures.items, lines_more) (c.loop-ring.invariant.completes _ (rw e (one_line read h)));
      first = λ f h. c.loop-ring.invariant.first f (rw e (fault_behind_ring numbers rest f read h));
    }

pub returns-in_err-read_line : goal.returns-in_err-read_line
returns-in_err-read_line c =
    let e = rings_from c.args.rings.now c.loop-ring.ring-index c.ring-item.result c.loop-ring-test.true c.ring-item.is in
    let numbers = parts_of (numbers_of c.ring-item.result.corners.items) in
    let rest = parts_of (rings_of (drop (c.loop-ring.ring-index + 1) c.args.rings.now)) in
    let p = err_from_is_err_and c.from_residual.result c.from_residual.ensures.1 in
    rw (p.1, p.2) (fault_along c.in_err-read_line.field-0.0 c.loop-ring.invariant.first
    (rw e (fault_in_ring numbers rest c.in_err-read_line.field-0.0 (rw c.deref.ensures.value at c.in_err-read_line.ensures))))

pub returns : goal.returns
returns c =
    let none_left : drop c.loop-ring.ring-index c.args.rings.now ≡ [] = drop_of_length-le c.args.rings.now c.loop-ring-test.false in
    rw append-nil at (c.loop-ring.invariant.completes [] (rw none_left no_line))
