use Rattle.std.proofs.Common.{inl, refl, arith}
use Rattle.cadastred_run.proofs.CheckingLemmas.{store_uncopied}
use Rattle.cadastred_run.proofs.file_checking.check_register.Goals as goal

pub returns-in-Err : goal.returns-in-Err
returns-in-Err g c = record {
  ends = tt;
  clean = c.in-Err.ensures.later.clean;
  does = λ clean commands is. inl (store_uncopied commands c.in-Err.fault (c.in-Err.ensures.cause clean commands is (omega arith)), (refl, refl));
  keeps = c.in-Err.ensures.keeps.unchanged;
  crash = c.in-Err.ensures.keeps.crash;
}
