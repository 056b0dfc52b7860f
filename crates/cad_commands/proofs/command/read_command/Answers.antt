use Rattle.std.proofs.Common.{◌≡◌, Some, sym, ap, ◌∙◌, rules}
use Rattle.std.specs.Option.{option_and_then}
use Rattle.serde_json.specs.Find.{as_object}
use Rattle.serde_json.specs.Read.{read}
use Rattle.serde_json.specs.View.{view}
use Rattle.cad_commands.specs.Commands.{Says}
use Rattle.cad_commands.proofs.ReadingLemmas.{unread_part}
use Rattle.cad_commands.proofs.command.read_command.Goals as goal

pub returns-in_err-of-in-Ok : goal.returns-in_err-of-in-Ok
returns-in_err-of-in-Ok c =
    let whole : read c.args.text.now ≡ Some (view c.in-Ok.value) = search rules in
    unread_part (λ v. v) (λ ms. as_object (view c.in-Ok.value) ≡ Some ms) (Says c.args.text.now) _ _ c.from_residual-in_err-of-in-Ok.ensures.1 c.in_err-of-in-Ok.ensures (λ command says. (says.1.0, sym (ap (option_and_then as_object) whole) ∙ says.1.1))
