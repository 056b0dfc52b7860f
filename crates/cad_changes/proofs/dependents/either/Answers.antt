use Rattle.cad_changes.proofs.DependentLemmas.{either_is}
use Rattle.cad_changes.proofs.dependents.either.Goals as goal

pub returns : goal.returns
returns c = either_is c.args.one c.args.other _ _ _ c.in_ok-plans.ensures.items c.in_ok-push.ensures.items c.in_ok-push-2.ensures.items
