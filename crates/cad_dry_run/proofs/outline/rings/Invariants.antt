use Rattle.std.proofs.Common.{take}
use Rattle.serde_json.specs.View.{items_view}
use Rattle.cad_commands.specs.Values.{AreRingsOf}
use Rattle.cad_dry_run.proofs.outline.rings.Given as goal

abbrev pub invariant-loop-k : goal.invariant-loop-k
invariant-loop-k l = AreRingsOf (items_view (take l.k l.list)) l.rings.items
