use Rattle.cad_ask.proofs.AskLemmas.{fault_or_asks}
use Rattle.cad_ask.proofs.laws.fault_or_asks.Goals as goal

pub returns : goal.returns
returns c = fault_or_asks c.fault_or_filter.ensures
