use Rattle.std.proofs.lemmas.Result.{err_from_is_err_and}
use Rattle.cadastred_run.proofs.JournalLemmas.{front_of_all, printed_then}
use Rattle.cadastred_run.proofs.file_journal.print_journal.Goals as goal

pub returns-in_err-print_commands : goal.returns-in_err-print_commands
returns-in_err-print_commands g c =
    let p = err_from_is_err_and c.from_residual.result c.from_residual.ensures.1 in
    rw p.1 (front_of_all _ _ _ _ c.in_err-print_commands.ensures)

pub returns : goal.returns
returns g c = printed_then _ _ _ _ _ c.print_end.result c.in_ok-print_commands.ensures c.print_end.ensures
