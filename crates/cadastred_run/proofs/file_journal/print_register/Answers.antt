use Rattle.std.proofs.Common.{Err, refl, ap, arith}
use Rattle.cadastred_run.proofs.file_journal.print_register.Goals as goal

pub returns : goal.returns
returns g c = record {
  ends = (c.in-Err.ensures.named (λ e. c.in-Err.ensures.within (omega arith) (ap Err e)), refl);
  clean = c.in-Err.ensures.later.clean;
  does = λ clean commands is. (c.in-Err.ensures.cause clean commands is (omega arith), refl);
  keeps = c.in-Err.ensures.keeps.unchanged;
  crash = c.in-Err.ensures.keeps.crash;
}
