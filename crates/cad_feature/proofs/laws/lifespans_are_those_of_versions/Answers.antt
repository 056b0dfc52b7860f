use Rattle.cad_feature.proofs.LawLemmas.{lifespan_is}
use Rattle.cad_feature.proofs.laws.lifespans_are_those_of_versions.Goals as goal

pub returns : goal.returns
returns c = λ vs v is. lifespan_is v is
