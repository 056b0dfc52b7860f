use Rattle.serde_json.specs.View.{view}
use Rattle.cad_dry_run.proofs.ValueLemmas.{item_at, rings_next}
use Rattle.cad_dry_run.proofs.outline.rings.Goals as goal

pub returns-in-Err-Cause : goal.returns-in-Err-Cause
returns-in-Err-Cause c =
    (view c.index-list-k.result, item_at c.args.list.now c.loop-k.k c.index-list-k.result c.loop-k-test.true c.index-list-k.is, rw c.in-Err-Cause.field-0-is (rw c.in-Err-Cause.field-0-is at c.in-Err-Cause.ensures))

pub loop-k-preserved : goal.loop-k-preserved
loop-k-preserved c =
    rw c.in_ok-push-in-Ok.ensures.items (rings_next c.args.list.now c.loop-k.k c.index-list-k.result c.index-list-k.result c.loop-k.rings.items c.in-Ok.ring c.loop-k-test.true c.index-list-k.is c.loop-k.invariant c.in-Ok.ensures)
