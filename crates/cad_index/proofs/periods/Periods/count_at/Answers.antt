use Rattle.std.proofs.Common.{sym, ap, length, arith}
use Rattle.cad_index.proofs.PeriodLemmas.{none_shown, times_counted}
use Rattle.cad_index.proofs.periods.Periods.count_at.Goals as goal

pub returns-then-revision-from : goal.returns-then-revision-from
returns-then-revision-from c = λ xs are. sym (ap length (none_shown c.args.revision (omega (arith, c.if-revision-from.true)) xs are.bounded))

pub overflow_sub-result : goal.overflow_sub-result
overflow_sub-result c =
    let begun = rw c.deref.ensures.value at c.count_upto.ensures in
    let ended = rw c.deref-2.ensures.value at c.count_upto-2.ensures in
    let sum = times_counted c.args.revision (omega (arith, c.if-revision-from.false)) c.args.self.now c.requires.0 c.requires.1 in
    omega (arith, sum, begun, ended)

pub returns : goal.returns
returns c = λ xs are.
    let begun = rw c.deref.ensures.value at c.count_upto.ensures in
    let ended = rw c.deref-2.ensures.value at c.count_upto-2.ensures in
    let sum = times_counted c.args.revision (omega (arith, c.if-revision-from.false)) c.args.self.now xs are in
    omega (arith, sum, begun, ended)
