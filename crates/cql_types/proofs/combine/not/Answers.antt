use Rattle.std.proofs.Common.{refl, Some, ap, sym, ◌∙◌}
use Rattle.cql_types.specs.Means.{negation}
use Rattle.cql_types.proofs.combine.not.Goals as goal

pub returns : goal.returns
returns c = rw c.condition.ensures (record { place = refl; makes = negation _ (c.in_ok-filter.ensures.ok ∙ ap Some (sym c.in_ok-new.ensures.ok)) })
