use Rattle.std.proofs.Common.{refl, Some, ap, sym, ◌∙◌}
use Rattle.cql_types.specs.Means.{computed}
use Rattle.cql_types.proofs.combine.computed.Goals as goal

pub returns : goal.returns
returns c = record {
  place = refl;
  makes = computed c.in_ok-first-2.first c.in_ok-steps.steps (c.in_ok-first.ensures.ok ∙ ap Some (sym c.in_ok-first-2.ensures.ok)) c.in_ok-steps.ensures.ok;
}
