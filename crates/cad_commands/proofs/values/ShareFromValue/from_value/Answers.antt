use Rattle.serde_json.specs.View.{view}
use Rattle.cad_commands.specs.Values.{IsPairOf, IsShareOf}
use Rattle.cad_commands.proofs.ReadingLemmas.{unread_part}
use Rattle.cad_commands.proofs.values.ShareFromValue.from_value.Goals as goal

pub returns-in_err-num : goal.returns-in_err-num
returns-in_err-num c =
    unread_part (λ v. v) (λ pair. IsPairOf (view c.args.value.now) pair.0 pair.1) (IsShareOf (view c.args.value.now)) _ _ c.from_residual.ensures.1 c.in_err-num.ensures (λ share says. ((says.0, says.1), says.2))
