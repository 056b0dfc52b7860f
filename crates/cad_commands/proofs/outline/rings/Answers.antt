use Rattle.std.proofs.Common.{take_all}
use Rattle.serde_json.specs.View.{items_view, view}
use Rattle.cad_commands.specs.Values.{IsRingOf, AreRingsOf}
use Rattle.cad_commands.proofs.ReadingLemmas.{unread_part}
use Rattle.cad_commands.proofs.ShapeLemmas.{ring_at, rings_next}
use Rattle.cad_commands.proofs.outline.rings.Goals as goal

pub returns-in_err-from_value : goal.returns-in_err-from_value
returns-in_err-from_value c =
    unread_part (λ v. v.items) (IsRingOf (view c.value-item.result)) (AreRingsOf (items_view c.args.list.now)) _ _ c.from_residual.ensures.1 c.in_err-from_value.ensures (λ rings are. rw c.value-item.is (ring_at c.args.list.now c.loop-value.value-index _ rings c.loop-value-test.true are))

pub loop-value-preserved : goal.loop-value-preserved
loop-value-preserved c =
    rw c.in_ok-push.ensures.items (rings_next c.args.list.now c.loop-value.value-index c.value-item.result _ c.loop-value.rings.items c.in_ok-from_value.field-0 c.loop-value-test.true c.value-item.is c.loop-value.invariant c.in_ok-from_value.ensures)

pub returns : goal.returns
returns c = rw (take_all c.loop-value.value-index c.args.list.now c.loop-value-test.false) at c.loop-value.invariant
