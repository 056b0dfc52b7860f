use Rattle.cad_resource.proofs.PathLemmas.{places_have_one_path}
use Rattle.cad_resource.proofs.ResourceLemmas.{resources_have_one_path}
use Rattle.cad_resource.proofs.laws.places_have_one_path.Goals as goal

pub returns-clause-places : goal.returns-clause-places
returns-clause-places c = places_have_one_path

pub returns-clause-resources : goal.returns-clause-resources
returns-clause-resources c = resources_have_one_path
