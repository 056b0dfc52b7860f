use Rattle.cad_versions.specs.lemmas.SameLemmas.{one_shape}
use Rattle.cad_versions.proofs.laws.bytes_are_of_one_shape.Goals as goal

pub returns : goal.returns
returns c = one_shape
