use Rattle.std.proofs.Common.{◌≡◌, Some, rules}
use Rattle.serde_json.specs.Find.{as_array}
use Rattle.serde_json.specs.View.{items_view, view}
use Rattle.cad_commands.proofs.ValueLemmas.{says_no_ring}
use Rattle.cad_commands.proofs.outline.RingFromValue.from_value.Goals as goal

pub returns : goal.returns
returns c =
    let list : as_array (view c.args.value.now) ≡ Some (items_view c.in_ok-list.list.now.items) = search rules in
    says_no_ring _ _ c.in_ok-corners.corners.items _ list (rw c.deref.ensures.value at c.in_ok-corners.ensures) c.in-Err.ensures.0
