use Rattle.std.proofs.Common.{inl}
use Rattle.sqlite.specs.WalFiles.{image_at}
use Rattle.cadastred_run.specs.Checking.{IsUntouched}
use Rattle.cadastred_run.specs.FileChecking.{IsCheckEnd, ChecksAfter}
use Rattle.cadastred_run.proofs.CheckingLemmas.{store_uncopied}
use Rattle.cadastred_run.proofs.ReadingLemmas.{reads_in_file}
use Rattle.cadastred_run.proofs.file_checking.run_check.Goals as goal

pub returns-in-Ok-clause-checked : goal.returns-in-Ok-clause-checked
returns-in-Ok-clause-checked g c =
    reads_in_file IsCheckEnd (ChecksAfter _ _ _ _ _) (IsUntouched _ _ _ _) (λ commands fault why nothing. inl (store_uncopied commands fault why, nothing)) (image_at g.S.Start) c.check_found.result c.in-Ok.connection c.in-Ok.ensures.found c.check_found.ensures
