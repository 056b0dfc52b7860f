use Rattle.cad_versions.proofs.CheckLemmas.{foretold}
use Rattle.cad_versions.proofs.laws.checks_foretell.Goals as goal

pub returns : goal.returns
returns g c commands command old mid new told answer so sm k cm a cn = foretold g.L.Ledger commands command old mid new told answer so sm k cm a cn
