use Rattle.std.proofs.Common.{◌≡◌, ◌∙◌, List, ap, arith, drop, map}
use Rattle.std.proofs.lemmas.List.{at_drop_all}
use Rattle.cql_types.specs.declared.filter.Step.{Step}
use Rattle.cad_lookup.specs.Ways.{total}
use Rattle.cad_page.specs.Weights.{capped, number_weight, part_weight}
use Rattle.cad_page.proofs.WeightLemmas.{computed_weight}
use Rattle.cad_page.proofs.weights.+numbers.Goals as goal

pub parts_weight-returns : goal.parts_weight-returns
parts_weight-returns t c =
    let none : total (map part_weight (drop c.loop-step.step-index c.args.steps.now)) ≡ 0 =
    at_drop_all (λ (xs : List Step). total (map part_weight xs)) c.args.steps.now c.loop-step.step-index (omega (arith, c.loop-step-test.false)) in
    let was = c.loop-step.invariant in
    omega (arith, none, was.counted, was.within)

pub number_weight-returns-in-Computed : goal.number_weight-returns-in-Computed
number_weight-returns-in-Computed t c =
    let whole = ap number_weight c.in-Computed.is ∙ computed_weight c.in-Computed.first c.in-Computed.steps in
    let first : c.number_weight.result ≡ capped (number_weight c.in-Computed.first.value) = c.number_weight.ensures ∙ ap (λ term. capped (number_weight term)) c.deref.ensures in
    let parts : c.parts_weight.result ≡ capped (total (map part_weight c.in-Computed.steps.items)) = c.parts_weight.ensures ∙ ap (λ steps. capped (total (map part_weight steps))) c.deref-in-Computed.ensures.value in
    omega (arith, whole, first, parts, c.saturating_add.ensures)
