use Rattle.cadastred_run.proofs.CheckingLemmas.{checks_after}
use Rattle.cadastred_run.proofs.file_checking.check_commands.Goals as goal

pub returns-in-Ok-clause-checked : goal.returns-in-Ok-clause-checked
returns-in-Ok-clause-checked g c accepted =
    checks_after _ _ _ _ _ c.in-Ok.copy c.check_over.new.copy c.args.journal.items c.check_over.result c.check_over.ensures c.in-Ok.ensures.empty accepted
