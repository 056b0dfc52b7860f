use Rattle.serde_json.specs.View.{view}
use Rattle.cad_commands.specs.Values.{IsPairOf, IsPointOf}
use Rattle.cad_commands.proofs.ReadingLemmas.{unread_part}
use Rattle.cad_commands.proofs.values.PointFromValue.from_value.Goals as goal

pub returns-in_err-x : goal.returns-in_err-x
returns-in_err-x c =
    unread_part (λ v. v) (λ pair. IsPairOf (view c.args.value.now) pair.0 pair.1) (IsPointOf (view c.args.value.now)) _ _ c.from_residual.ensures.1 c.in_err-x.ensures (λ point says. ((says.0, says.1), says.2))
