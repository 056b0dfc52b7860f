use Rattle.std.proofs.Common.{take}
use Rattle.serde_json.specs.View.{items_view}
use Rattle.cad_commands.specs.Values.{ArePointsOf}
use Rattle.cad_dry_run.proofs.outline.points.Given as goal

abbrev pub invariant-loop-i : goal.invariant-loop-i
invariant-loop-i l = ArePointsOf (items_view (take l.i l.list)) l.points.items
