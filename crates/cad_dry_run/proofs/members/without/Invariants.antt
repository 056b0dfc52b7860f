use Rattle.std.proofs.Common.{◌≡◌, map, take}
use Rattle.serde_json.specs.View.{members_view}
use Rattle.cad_commands.specs.Members.{without_all}
use Rattle.cad_dry_run.proofs.members.without.Given as goal

abbrev pub invariant-loop-name : goal.invariant-loop-name
invariant-loop-name l =
    members_view l.others.entries ≡ without_all (map (λ name. name.now) (take l.name-index l.names)) (members_view l.fn.members.entries)
