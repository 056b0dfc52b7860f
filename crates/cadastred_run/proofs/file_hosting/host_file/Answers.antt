use Rattle.std.proofs.lemmas.Result.{IfOk-weaker}
use Rattle.sqlite.specs.WalFiles.{image_at}
use Rattle.cadastred_run.proofs.FileLemmas.{hosts_in_file}
use Rattle.cadastred_run.proofs.file_hosting.host_file.Goals as goal

pub returns-clause-hosted : goal.returns-clause-hosted
returns-clause-hosted g c =
    IfOk-weaker c.host_opened.result _ _
    (λ ended opened. hosts_in_file _ _ (image_at g.S.Start) _ _ opened.lent ended c.requested-asked.ensures opened.finds opened.runs)
    c.host_opened.ensures.hosted
