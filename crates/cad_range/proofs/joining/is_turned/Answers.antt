use Rattle.std.proofs.Common.{not}
use Rattle.std.specs.Ordering.{is_lt, is_gt, is_ge}
use Rattle.cad_range.specs.Ranges.{has_order}
use Rattle.cad_range.proofs.OrderLemmas.{turned, turned_with_with, turned_with_without, turned_without_with, turned_without_without}
use Rattle.cad_range.proofs.joining.is_turned.Goals as goal

pub returns-in-With-With : goal.returns-in-With-With
returns-in-With-With c = λ h d.
    let k = c.in-With-With in
    rw (k.is-0, k.is-1) (turned is_gt (λ o. not (is_lt o)) (λ o. not (is_gt o)) k.a k.b (has_order d) c.is_after.ensures h turned_with_with d)

pub returns-in-With-Without : goal.returns-in-With-Without
returns-in-With-Without c = λ h d.
    let k = c.in-With-Without in
    rw (k.is-0, k.is-1) (turned is_ge (λ o. not (is_lt o)) is_lt k.a k.b (has_order d) c.is_not_before.ensures h turned_with_without d)

pub returns-in-Without-With : goal.returns-in-Without-With
returns-in-Without-With c = λ h d.
    let k = c.in-Without-With in
    rw (k.is-0, k.is-1) (turned is_ge is_gt (λ o. not (is_gt o)) k.a k.b (has_order d) c.is_not_before-in-Without-With.ensures h turned_without_with d)

pub returns-in-Without-Without : goal.returns-in-Without-Without
returns-in-Without-Without c = λ h d.
    let k = c.in-Without-Without in
    rw (k.is-0, k.is-1) (turned is_ge is_gt is_lt k.a k.b (has_order d) c.is_not_before-in-Without-Without.ensures h turned_without_without d)
