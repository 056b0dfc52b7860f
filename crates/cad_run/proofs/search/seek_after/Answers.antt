use Rattle.cad_run.proofs.LeftLemmas.{all_later}
use Rattle.cad_run.proofs.search.seek_after.Goals as goal

pub returns-in_default-clause-left : goal.returns-in_default-clause-left
returns-in_default-clause-left g c = rw c.in_default.is (all_later _)

pub returns-in_default-clause-ahead : goal.returns-in_default-clause-ahead
returns-in_default-clause-ahead g c = rw c.in_default.is (all_later _)
