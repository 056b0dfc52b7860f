use Rattle.cad_parameters.proofs.IdentifierLemmas.{reading_is_identifying}
use Rattle.cad_parameters.proofs.laws.reading_is_identifying.Goals as goal

pub returns : goal.returns
returns c = reading_is_identifying
