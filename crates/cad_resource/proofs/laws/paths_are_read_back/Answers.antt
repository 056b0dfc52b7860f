use Rattle.cad_resource.proofs.PathLemmas.{paths_are_read_back}
use Rattle.cad_resource.proofs.ResourceLemmas.{known_paths_are_read_back}
use Rattle.cad_resource.proofs.laws.paths_are_read_back.Goals as goal

pub returns-clause-places : goal.returns-clause-places
returns-clause-places c = paths_are_read_back

pub returns-clause-resources : goal.returns-clause-resources
returns-clause-resources c = known_paths_are_read_back
