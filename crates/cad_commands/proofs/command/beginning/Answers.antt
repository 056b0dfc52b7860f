use Rattle.serde_json.specs.View.{members_view}
use Rattle.cad_commands.specs.Commands.{SaysBeginning, SaysOneBody}
use Rattle.cad_commands.proofs.ReadingLemmas.{unread_part}
use Rattle.cad_commands.proofs.command.beginning.Goals as goal

pub returns-in_err-body : goal.returns-in_err-body
returns-in_err-body c =
    let ms = members_view c.args.members.map.entries in
    unread_part (λ v. v) (SaysOneBody ms) (SaysBeginning ms) _ _ c.from_residual-in_err-body.ensures.1 c.in_err-body.ensures (λ beginning says. (beginning.2, says.2))
