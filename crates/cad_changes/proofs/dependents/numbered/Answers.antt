use Rattle.cad_changes.proofs.DependentLemmas.{numbered_is}
use Rattle.cad_changes.proofs.dependents.numbered.Goals as goal

pub returns : goal.returns
returns c = numbered_is c.args.object c.args.place _ _ c.edge_of.ensures c.edge_of-2.ensures
