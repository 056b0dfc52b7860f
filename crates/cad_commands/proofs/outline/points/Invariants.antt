use Rattle.std.proofs.Common.{take}
use Rattle.serde_json.specs.View.{items_view}
use Rattle.cad_commands.specs.Values.{ArePointsOf}
use Rattle.cad_commands.proofs.outline.points.Given as goal

abbrev pub invariant-loop-value : goal.invariant-loop-value
invariant-loop-value l = ArePointsOf (items_view (take l.value-index l.list)) l.points.items
