use Rattle.cad_parameters.proofs.PairLemmas.{pairs_are_texts}
use Rattle.cad_parameters.proofs.laws.pairs_are_texts.Goals as goal

pub returns : goal.returns
returns c = pairs_are_texts
