use Rattle.cad_versions.specs.BodyParts.{unit_named, party_named}
use Rattle.cad_feature.proofs.LawLemmas.{names_told}
use Rattle.cad_feature.proofs.laws.names_are_of_the_first_day.Goals as goal

pub returns-clause-unit : goal.returns-clause-unit
returns-clause-unit c = λ vs v characters e. names_told vs v.first (unit_named v.body) characters e

pub returns-clause-party : goal.returns-clause-party
returns-clause-party c = λ vs v characters e. names_told vs v.first (party_named v.body) characters e
