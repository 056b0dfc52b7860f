use Rattle.std.proofs.Common.{Ok, Err, refl}
use Rattle.cad_network.specs.lemmas.DeedLemmas.{Adds-nil}
use Rattle.cadastred_run.proofs.file_hosting.host_found.Goals as goal

pub returns-in-Ok : goal.returns-in-Ok
returns-in-Ok g c = record {
  found = Ok c.in-Ok.register;
  opened = c.in-Ok.ensures;
  works = c.host_register.ensures;
}

pub returns-in-Err : goal.returns-in-Err
returns-in-Err g c = record {
  found = Err (c.in-Err.fault, c.in-Err.connection);
  opened = c.in-Err.ensures;
  works = record { ends = refl; back = refl; nothing = (refl, Adds-nil _, refl) };
}
