use Rattle.std.proofs.Common.{◌∷◌, []}
use Rattle.std.proofs.lemmas.Result.{IfOk-weaker}
use Rattle.cql_types.specs.Means.{no_term, one_term}
use Rattle.cql_types.proofs.collect.gather.Goals as goal

pub returns-clause-ok : goal.returns-clause-ok
returns-clause-ok g c =
    IfOk-weaker c.extend.result _ _ (λ xs h. h (c.args.first ∷ []) (rw (c.in_ok-push.ensures.items, c.new-terms.ensures.items) (one_term c.in_ok-one.ensures.ok no_term))) c.extend.ensures.ok
