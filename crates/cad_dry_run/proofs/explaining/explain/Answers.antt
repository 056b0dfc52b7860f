use Rattle.std.proofs.Common.{Err, ap, ◌∙◌}
use Rattle.cad_dry_run.proofs.explaining.explain.Goals as goal

pub returns-in_ok-explanation-in-Err-NotACommand : goal.returns-in_ok-explanation-in-Err-NotACommand
returns-in_ok-explanation-in-Err-NotACommand c =
    let unread = c.in-Err-NotACommand.is ∙ ap (λ e. Err e) c.in-Err-NotACommand.field-0-is in
    record { none = λ command asks. (rw unread at c.read_command.ensures) command asks.1; why = c.in_ok-explanation-in-Err-NotACommand.ensures }
