use Rattle.cad_ordered.specs.Ranged.{column}
use Rattle.cad_ordered.proofs.KeyLists.{order_found}
use Rattle.cad_ordered.proofs.key.ordered_keys.Goals as goal

pub returns : goal.returns
returns g c = order_found g.K.Key.datum g.met.K.Ord.total g.met.K.Key.ordered _ _ _ _ (column c.args.place c.args.features.now) c.in_ok-pairs.ensures c.sort_unstable.ensures.permutation c.sort_unstable.ensures.sorted c.in_ok-parts.ensures.same c.in_ok-parts.ensures.beside
