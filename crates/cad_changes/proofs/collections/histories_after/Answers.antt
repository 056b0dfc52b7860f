use Rattle.std.proofs.Common.{rules}
use Rattle.std.proofs.lemmas.Result.{IfOk-weaker}
use Rattle.cad_changes.proofs.collections.histories_after.Goals as goal

pub returns : goal.returns
returns c = IfOk-weaker c.of_each.result _ _ (λ next made commands accepted are count collection. let own = made collection in search rules) c.of_each.ensures
