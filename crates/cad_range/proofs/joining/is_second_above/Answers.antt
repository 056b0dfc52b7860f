use Rattle.std.proofs.Common.{◌≡◌, ◌∙◌, sym, ◌&&◌, not, Some}
use Rattle.std.specs.Ordering.{is_lt, is_gt, is_le}
use Rattle.cad_range.specs.Ranges.{picked}
use Rattle.cad_range.proofs.OrderLemmas.{judged, none_picked, above_without_with, above_with_with, above_with_without, above_without_without}
use Rattle.cad_range.proofs.joining.is_second_above.Goals as goal

pub returns-in_ok-order-in-Without-With : goal.returns-in_ok-order-in-Without-With
returns-in_ok-order-in-Without-With c = λ d.
    let k = c.in-Without-With in
    let r = c.in_ok-order-in-Without-With.field-0 in
    rw (c.is_lt.ensures, k.is-0, k.is-1)
    (judged is_gt (λ o. not (is_lt o)) (λ s t. picked (Some (is_lt r)) s t ≡ (s && t)) k.a k.b r (sym c.order.ensures ∙ c.in_ok-order-in-Without-With.was) (none_picked (is_lt r)) (above_without_with r) d)

pub returns-in_ok-order-in-With-With : goal.returns-in_ok-order-in-With-With
returns-in_ok-order-in-With-With c = λ d.
    let k = c.in-With-With in
    let r = c.in_ok-order-in-With-With.field-0 in
    rw (c.is_le-in-With-With.ensures, k.is-0, k.is-1)
    (judged (λ o. not (is_lt o)) (λ o. not (is_lt o)) (λ s t. picked (Some (is_le r)) s t ≡ (s && t)) k.a k.b r (sym c.order-in-With-With.ensures ∙ c.in_ok-order-in-With-With.was) (none_picked (is_le r)) (above_with_with r) d)

pub returns-in_ok-order-in-With-Without : goal.returns-in_ok-order-in-With-Without
returns-in_ok-order-in-With-Without c = λ d.
    let k = c.in-With-Without in
    let r = c.in_ok-order-in-With-Without.field-0 in
    rw (c.is_le-in-With-Without.ensures, k.is-0, k.is-1)
    (judged (λ o. not (is_lt o)) is_gt (λ s t. picked (Some (is_le r)) s t ≡ (s && t)) k.a k.b r (sym c.order-in-With-Without.ensures ∙ c.in_ok-order-in-With-Without.was) (none_picked (is_le r)) (above_with_without r) d)

pub returns-in_ok-order-in-Without-Without : goal.returns-in_ok-order-in-Without-Without
returns-in_ok-order-in-Without-Without c = λ d.
    let k = c.in-Without-Without in
    let r = c.in_ok-order-in-Without-Without.field-0 in
    rw (c.is_le.ensures, k.is-0, k.is-1)
    (judged is_gt is_gt (λ s t. picked (Some (is_le r)) s t ≡ (s && t)) k.a k.b r (sym c.order-in-Without-Without.ensures ∙ c.in_ok-order-in-Without-Without.was) (none_picked (is_le r)) (above_without_without r) d)
