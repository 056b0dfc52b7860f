use Rattle.serde_json.specs.View.{view}
use Rattle.cad_dry_run.proofs.ValueLemmas.{item_at, points_next}
use Rattle.cad_dry_run.proofs.outline.points.Goals as goal

pub returns-in-Err : goal.returns-in-Err
returns-in-Err c =
    (view c.index-list-i.result, item_at c.args.list.now c.loop-i.i c.index-list-i.result c.loop-i-test.true c.index-list-i.is, c.in-Err.ensures)

pub loop-i-preserved : goal.loop-i-preserved
loop-i-preserved c =
    rw c.in_ok-push-in-Ok.ensures.items (points_next c.args.list.now c.loop-i.i c.index-list-i.result c.index-list-i.result c.loop-i.points.items c.in-Ok.point c.loop-i-test.true c.index-list-i.is c.loop-i.invariant c.in-Ok.ensures)
