use Rattle.sqlite.specs.WalFiles.{image_at}
use Rattle.cad_register.specs.lemmas.RunningLemmas.{runs_in_file_or_new}
use Rattle.cadastre_run.proofs.file_runs.run_office.Goals as goal

pub returns-clause-ran : goal.returns-clause-ran
returns-clause-ran g c = runs_in_file_or_new (image_at g.S.Start) _ c.in_ok-connection.connection _ c.in_ok-connection.ensures.found c.enter_over.ensures
