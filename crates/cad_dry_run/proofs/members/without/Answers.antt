use Rattle.std.proofs.Common.{ap, ◌∙◌}
use Rattle.serde_json.specs.View.{members_view}
use Rattle.cad_commands.specs.Members.{without}
use Rattle.cad_dry_run.proofs.MemberLemmas.{view-remove_entry, without_all-next}
use Rattle.cad_dry_run.proofs.members.without.Goals as goal

pub loop-name-preserved : goal.loop-name-preserved
loop-name-preserved c =
    ap members_view c.remove.ensures.entries ∙ view-remove_entry _ c.loop-name.others.entries ∙ ap (without _) c.loop-name.invariant ∙ without_all-next c.args.names.now c.loop-name.name-index _ _ c.loop-name-test.true
