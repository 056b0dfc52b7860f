use Rattle.serde_json.specs.View.{members_view}
use Rattle.cad_versions.specs.BodyParts.{parts_of}
use Rattle.cad_commands.specs.Bodies.{SaysBody, SaysParts}
use Rattle.cad_commands.proofs.OneCommand.{one_parts}
use Rattle.cad_commands.proofs.ReadingLemmas.{unread_part}
use Rattle.cad_commands.proofs.body.body_of.Goals as goal

pub returns-in-None : goal.returns-in-None
unfolding SaysBody
returns-in-None c = λ x says. c.in-None.ensures x (says.0, one_parts (members_view c.args.members.map.entries) (parts_of x) c.in_ok-parts.parts says.1 c.in_ok-parts.ensures)

pub returns-in_err-parts : goal.returns-in_err-parts
unfolding SaysBody
returns-in_err-parts c =
    let ms = members_view c.args.members.map.entries in
    unread_part (λ v. v) (SaysParts ms) (λ body. SaysBody ms c.args.class body) _ _ c.from_residual.ensures.1 c.in_err-parts.ensures (λ body says. (parts_of body, says.1))
