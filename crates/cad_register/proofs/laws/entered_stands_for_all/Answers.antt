use Rattle.cad_register.proofs.ReplayLemmas.{entered_stands}
use Rattle.cad_register.proofs.laws.entered_stands_for_all.Goals as goal

pub returns : goal.returns
returns g c = entered_stands g.L.Ledger
