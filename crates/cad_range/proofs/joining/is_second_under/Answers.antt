use Rattle.std.proofs.Common.{◌≡◌, ◌∙◌, sym, ◌&&◌, not, Some}
use Rattle.std.specs.Ordering.{is_lt, is_gt, is_ge}
use Rattle.cad_range.specs.Ranges.{picked}
use Rattle.cad_range.proofs.OrderLemmas.{judged, none_picked, under_without_with, under_with_with, under_with_without, under_without_without}
use Rattle.cad_range.proofs.joining.is_second_under.Goals as goal

pub returns-in_ok-order-in-Without-With : goal.returns-in_ok-order-in-Without-With
returns-in_ok-order-in-Without-With c = λ d.
    let k = c.in-Without-With in
    let r = c.in_ok-order-in-Without-With.field-0 in
    rw (c.is_gt.ensures, k.is-0, k.is-1)
    (judged is_lt (λ o. not (is_gt o)) (λ s t. picked (Some (is_gt r)) s t ≡ (s && t)) k.a k.b r (sym c.order.ensures ∙ c.in_ok-order-in-Without-With.was) (none_picked (is_gt r)) (under_without_with r) d)

pub returns-in_ok-order-in-With-With : goal.returns-in_ok-order-in-With-With
returns-in_ok-order-in-With-With c = λ d.
    let k = c.in-With-With in
    let r = c.in_ok-order-in-With-With.field-0 in
    rw (c.is_ge-in-With-With.ensures, k.is-0, k.is-1)
    (judged (λ o. not (is_gt o)) (λ o. not (is_gt o)) (λ s t. picked (Some (is_ge r)) s t ≡ (s && t)) k.a k.b r (sym c.order-in-With-With.ensures ∙ c.in_ok-order-in-With-With.was) (none_picked (is_ge r)) (under_with_with r) d)

pub returns-in_ok-order-in-With-Without : goal.returns-in_ok-order-in-With-Without
returns-in_ok-order-in-With-Without c = λ d.
    let k = c.in-With-Without in
    let r = c.in_ok-order-in-With-Without.field-0 in
    rw (c.is_ge-in-With-Without.ensures, k.is-0, k.is-1)
    (judged (λ o. not (is_gt o)) is_lt (λ s t. picked (Some (is_ge r)) s t ≡ (s && t)) k.a k.b r (sym c.order-in-With-Without.ensures ∙ c.in_ok-order-in-With-Without.was) (none_picked (is_ge r)) (under_with_without r) d)

pub returns-in_ok-order-in-Without-Without : goal.returns-in_ok-order-in-Without-Without
returns-in_ok-order-in-Without-Without c = λ d.
    let k = c.in-Without-Without in
    let r = c.in_ok-order-in-Without-Without.field-0 in
    rw (c.is_ge.ensures, k.is-0, k.is-1)
    (judged is_lt is_lt (λ s t. picked (Some (is_ge r)) s t ≡ (s && t)) k.a k.b r (sym c.order-in-Without-Without.ensures ∙ c.in_ok-order-in-Without-Without.was) (none_picked (is_ge r)) (under_without_without r) d)
