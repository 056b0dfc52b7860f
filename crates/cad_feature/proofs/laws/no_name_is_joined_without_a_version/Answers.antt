use Rattle.cad_versions.specs.BodyParts.{unit_named, party_named}
use Rattle.cad_feature.proofs.LawLemmas.{none_told}
use Rattle.cad_feature.proofs.laws.no_name_is_joined_without_a_version.Goals as goal

pub returns-clause-unit : goal.returns-clause-unit
returns-clause-unit c = λ vs v object is none. none_told vs v.first (unit_named v.body) object is none

pub returns-clause-party : goal.returns-clause-party
returns-clause-party c = λ vs v object is none. none_told vs v.first (party_named v.body) object is none
