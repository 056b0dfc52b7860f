use Rattle.cadastred_run.specs.Doors.{address_requested}
use Rattle.cadastred_run.proofs.FileLemmas.{ok_also}
use Rattle.cadastred_run.proofs.file_hosting.run_service.Goals as goal

pub returns-clause-served : goal.returns-clause-served
returns-clause-served g c = ok_also c.host_file-ran.result (λ ended hosts. (address_requested c.in-Ok.doors, c.in-Ok.ensures, hosts)) c.host_file-ran.ensures.hosted
