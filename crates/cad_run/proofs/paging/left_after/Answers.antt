use Rattle.cad_run.proofs.LeftLemmas.{all_later}
use Rattle.cad_run.proofs.paging.left_after.Goals as goal

pub returns-in-None : goal.returns-in-None
returns-in-None g c = rw c.in-None.is (all_later _)
