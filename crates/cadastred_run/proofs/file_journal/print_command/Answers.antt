use Rattle.std.proofs.lemmas.Result.{err_from_is_err_and}
use Rattle.cadastred_run.proofs.JournalLemmas.{front_none}
use Rattle.cadastred_run.proofs.file_journal.print_command.Goals as goal

pub returns-in_err-line : goal.returns-in_err-line
returns-in_err-line g c =
    let p = err_from_is_err_and c.from_residual.result c.from_residual.ensures.1 in
    rw p.1 (front_none _ _)

pub returns-in_err-push_str : goal.returns-in_err-push_str
returns-in_err-push_str g c =
    let p = err_from_is_err_and c.from_residual-in_err-push_str.result c.from_residual-in_err-push_str.ensures.1 in
    rw p.1 (front_none _ _)
