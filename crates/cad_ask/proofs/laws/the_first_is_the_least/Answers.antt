use Rattle.cad_ask.proofs.OrderLemmas.{the_first_is_the_least}
use Rattle.cad_ask.proofs.laws.the_first_is_the_least.Goals as goal

pub returns : goal.returns
returns c = the_first_is_the_least c.fault_or_filter.ensures c.filter_or_fault.ensures
