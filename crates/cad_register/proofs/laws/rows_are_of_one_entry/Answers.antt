use Rattle.cad_register.proofs.KeptLemmas.{entry_same}
use Rattle.cad_register.proofs.laws.rows_are_of_one_entry.Goals as goal

pub returns : goal.returns
returns c row one other stands also = entry_same row one other stands also
