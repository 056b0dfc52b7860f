use Rattle.std.proofs.Common.{option_map, ap, ◌∙◌}
use Rattle.std.specs.Option.{option_and_then}
use Rattle.serde_json.specs.View.{members_view, view}
use Rattle.serde_json.proofs.Views.{view-lookup}
use Rattle.cad_commands.specs.Members.{unless_null}
use Rattle.cad_dry_run.proofs.MemberLemmas.{null_member, other_member}
use Rattle.cad_dry_run.proofs.members.find_member.Goals as goal

pub returns-in_err-value : goal.returns-in_err-value
returns-in_err-value c =
    rw c.from_residual.ensures (ap (option_and_then unless_null) (ap (option_map view) c.in_err-value.ensures.value ∙ view-lookup c.args.name.now c.args.members.now.entries))

pub returns-then-is_null : goal.returns-then-is_null
returns-then-is_null c =
    null_member c.args.name.now (members_view c.args.members.now.entries) (view c.in_ok-value.value.now) c.is_null.result (ap (option_map view) c.in_ok-value.ensures.value ∙ view-lookup c.args.name.now c.args.members.now.entries) c.is_null.ensures c.if-is_null.true

pub returns-else-is_null : goal.returns-else-is_null
returns-else-is_null c =
    other_member c.args.name.now (members_view c.args.members.now.entries) (view c.in_ok-value.value.now) c.is_null.result (ap (option_map view) c.in_ok-value.ensures.value ∙ view-lookup c.args.name.now c.args.members.now.entries) c.is_null.ensures c.if-is_null.false
