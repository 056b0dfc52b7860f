use Rattle.std.proofs.Common.{arith}
use Rattle.cad_dry_run.proofs.ValueLemmas.{no_pair}
use Rattle.cad_dry_run.proofs.values.two.Goals.{in_default-via-then-list-lt2, in_default-via-else-list-lt2+else-list-lt3}
use Rattle.cad_dry_run.proofs.values.two.Goals as goal

pub returns-in_default : goal.returns-in_default
returns-in_default c = λ first second is.
    no_pair c.args.list.now (λ e. elim c.in_default.branch [ in_default-via-then-list-lt2 w ↦ grind (arith, e, w) | in_default-via-else-list-lt2+else-list-lt3 w ↦ grind (arith, e, w) ]) first second is
