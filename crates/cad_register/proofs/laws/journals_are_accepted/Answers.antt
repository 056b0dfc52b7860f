use Rattle.cad_register.proofs.ReplayLemmas.{refused_by_keeper}
use Rattle.cad_register.proofs.laws.journals_are_accepted.Goals as goal

pub returns : goal.returns
returns g c = refused_by_keeper g.L.Ledger
