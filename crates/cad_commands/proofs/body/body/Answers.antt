use Rattle.std.proofs.Common.{◌≡◌, Some, ap}
use Rattle.serde_json.specs.Data.{object}
use Rattle.serde_json.specs.Find.{as_object}
use Rattle.serde_json.specs.View.{members_view, view}
use Rattle.cad_versions.specs.Class.{class_name}
use Rattle.cad_commands.specs.Commands.{names_beside, SaysOneBody}
use Rattle.cad_commands.specs.Members.{HasOneOther}
use Rattle.cad_commands.proofs.CommandLemmas.{one_value}
use Rattle.cad_commands.proofs.ReadingLemmas.{unread_part}
use Rattle.cad_commands.proofs.body.body.Goals as goal

pub returns-in_err-name : goal.returns-in_err-name
returns-in_err-name c =
    let ms = members_view c.args.members.map.entries in
    unread_part (λ v. v) (λ other. HasOneOther names_beside ms other.0 other.1) (SaysOneBody ms) _ _ c.from_residual.ensures.1 c.in_err-name.ensures (λ body says. ((class_name says.0, object says.1), says.2))

pub returns-in_err-members : goal.returns-in_err-members
returns-in_err-members c =
    let ms = members_view c.args.members.map.entries in
    unread_part (λ v. v) (λ inner. as_object (view c.in_ok-name.value) ≡ Some inner) (SaysOneBody ms) _ _ c.from_residual-in_err-members.ensures.1 c.in_err-members.ensures (λ body says. (says.1, ap as_object (one_value names_beside ms _ _ _ _ c.in_ok-name.ensures says.2)))
