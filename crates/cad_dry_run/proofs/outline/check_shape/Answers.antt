use Rattle.std.proofs.Common.{◌≡◌, Some, codes, sym}
use Rattle.serde_json.specs.View.{members_view, view}
use Rattle.cad_commands.specs.Members.{member_in}
use Rattle.cad_dry_run.proofs.outline.check_shape.Goals as goal

pub returns-in-Some-fault : goal.returns-in-Some-fault
returns-in-Some-fault c =
    let found : member_in (codes "shape") (members_view c.args.members.now.entries) ≡ Some (view c.in-Some.value.now) = sym c.in-Some.ensures in
    (view c.in-Some.value.now, c.in_ok-outer.outer, c.in_ok-holes.holes.items, found, c.in_ok-outer.ensures found, c.in_ok-holes.ensures, rw c.in-Some-fault.is at c.in_ok-fault.ensures)
