use Rattle.std.proofs.Common.{rules}
use Rattle.std.proofs.lemmas.Result.{IfOk-weaker}
use Rattle.cad_history.proofs.RegisterLemmas.{show_nothing}
use Rattle.cad_history.proofs.histories.Histories.new.Goals as goal

pub returns : goal.returns
returns c = IfOk-weaker c.of_each.result _ _ (λ all made collection. let own = made collection in show_nothing collection _ (search rules)) c.of_each.ensures
