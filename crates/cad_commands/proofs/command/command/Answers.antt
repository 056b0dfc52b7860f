use Rattle.serde_json.specs.View.{members_view}
use Rattle.cad_commands.specs.declared.operation.Operation.TheVariants.{Enter, Amend}
use Rattle.cad_commands.specs.Commands.{SaysBeginning, SaysCommand, SaysEnd}
use Rattle.cad_commands.proofs.CommandLemmas.{beginning_said, end_said}
use Rattle.cad_commands.proofs.ReadingLemmas.{unread_part}
use Rattle.cad_commands.proofs.command.command.Goals as goal

pub returns-in_err-object-in-Enter : goal.returns-in_err-object-in-Enter
returns-in_err-object-in-Enter c =
    let ms = members_view c.args.members.map.entries in
    unread_part (λ v. v) (SaysBeginning ms) (SaysCommand ms) _ _ c.from_residual-in_err-object-in-Enter.ensures.1 c.in_err-object-in-Enter.ensures (beginning_said ms Enter (rw c.in-Enter.is at c.in_ok-required.ensures) (λ e. cc))

pub returns-in_err-object-in-Amend : goal.returns-in_err-object-in-Amend
returns-in_err-object-in-Amend c =
    let ms = members_view c.args.members.map.entries in
    unread_part (λ v. v) (SaysBeginning ms) (SaysCommand ms) _ _ c.from_residual-in_err-object-in-Amend.ensures.1 c.in_err-object-in-Amend.ensures (beginning_said ms Amend (rw c.in-Amend.is at c.in_ok-required.ensures) (λ e. cc))

pub returns-in_err-object-in-Retire : goal.returns-in_err-object-in-Retire
returns-in_err-object-in-Retire c =
    let ms = members_view c.args.members.map.entries in
    unread_part (λ v. v) (SaysEnd ms) (SaysCommand ms) _ _ c.from_residual-in_err-object-in-Retire.ensures.1 c.in_err-object-in-Retire.ensures (end_said ms (rw c.in-Retire.is at c.in_ok-required.ensures))
