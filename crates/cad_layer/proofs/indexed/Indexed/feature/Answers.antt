use Rattle.std.proofs.Common.{Some, subst}
use Rattle.std.specs.List.Sorted.{IsStrictlySortedBy}
use Rattle.std.specs.Option.{option_copied}
use Rattle.cad_feature.specs.Features.{by_identifier}
use Rattle.cad_layer.specs.Identifiers.{identifier, IsTheOne}
use Rattle.cad_layer.specs.lemmas.ItemLemmas.{items_total}
use Rattle.cad_layer.specs.lemmas.LookupLemmas.{changed_one, base_one}
use Rattle.cad_layer.specs.lemmas.MergeLemmas.{merged_ascends}
use Rattle.cad_layer.proofs.indexed.Indexed.feature.Goals as goal

pub returns-in-Some-clause-one : goal.returns-in-Some-clause-one
returns-in-Some-clause-one c =
    let wanted = identifier c.args.object c.args.number in
    subst (λ xs. IsTheOne wanted xs (Some c.in-Some.feature.now)) c.lists.ensures.all (changed_one wanted c.lists.result.0.now c.lists.result.1.now c.in-Some.feature.now c.lists.ensures.order.1 c.in-Some.ensures)

pub returns-in-Some-clause-order : goal.returns-in-Some-clause-order
returns-in-Some-clause-order c = subst (IsStrictlySortedBy by_identifier) c.lists.ensures.all (merged_ascends by_identifier items_total c.lists.result.0.now c.lists.result.1.now c.lists.ensures.order.0)

pub returns-in-None-clause-one : goal.returns-in-None-clause-one
returns-in-None-clause-one c =
    let wanted = identifier c.args.object c.args.number in
    subst (λ xs. IsTheOne wanted xs (option_copied c.found-in-None.result)) c.lists.ensures.all (base_one wanted c.lists.result.0.now c.lists.result.1.now (option_copied c.found-in-None.result) c.in-None.ensures c.found-in-None.ensures)

pub returns-in-None-clause-order : goal.returns-in-None-clause-order
returns-in-None-clause-order c = subst (IsStrictlySortedBy by_identifier) c.lists.ensures.all (merged_ascends by_identifier items_total c.lists.result.0.now c.lists.result.1.now c.lists.ensures.order.0)
