use Rattle.std.proofs.Common.{rules}
use Rattle.std.proofs.lemmas.Result.{IfOk-weaker}
use Rattle.cad_history.proofs.histories.Histories.of_register.Goals as goal

pub returns : goal.returns
returns c = IfOk-weaker c.of_each.result _ _ (λ all made commands accepted is count collection. let own = made collection in search rules) c.of_each.ensures
