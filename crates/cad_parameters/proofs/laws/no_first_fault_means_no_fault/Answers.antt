use Rattle.cad_parameters.proofs.FirstLemmas.{no_first_fault_means_no_fault}
use Rattle.cad_parameters.proofs.laws.no_first_fault_means_no_fault.Goals as goal

pub returns : goal.returns
returns c = no_first_fault_means_no_fault
