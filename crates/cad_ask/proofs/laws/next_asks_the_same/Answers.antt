use Rattle.cad_ask.proofs.AskLemmas.{next_asks_the_same}
use Rattle.cad_ask.proofs.laws.next_asks_the_same.Goals as goal

pub returns : goal.returns
returns c = next_asks_the_same c.continued_goes_on.ensures
