use Rattle.std.proofs.Common.{take}
use Rattle.serde_json.specs.View.{items_view}
use Rattle.cad_commands.specs.Values.{AreRingsOf}
use Rattle.cad_commands.proofs.outline.rings.Given as goal

abbrev pub invariant-loop-value : goal.invariant-loop-value
invariant-loop-value l = AreRingsOf (items_view (take l.value-index l.list)) l.rings.items
