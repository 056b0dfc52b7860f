use Rattle.cad_parameters.proofs.PairLemmas.{pairs_are_read_back}
use Rattle.cad_parameters.proofs.laws.pairs_are_read_back.Goals as goal

pub returns : goal.returns
returns c = pairs_are_read_back
