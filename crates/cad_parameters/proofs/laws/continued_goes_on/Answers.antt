use Rattle.cad_parameters.proofs.ContinuedLemmas.{continued_goes_on}
use Rattle.cad_parameters.proofs.laws.continued_goes_on.Goals as goal

pub returns : goal.returns
returns c = continued_goes_on
