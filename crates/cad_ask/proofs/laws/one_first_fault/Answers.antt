use Rattle.cad_ask.proofs.AskLemmas.{one_first_fault}
use Rattle.cad_ask.proofs.laws.one_first_fault.Goals as goal

pub returns : goal.returns
returns c = one_first_fault c.fault_or_filter.ensures c.one_first_fault.ensures
