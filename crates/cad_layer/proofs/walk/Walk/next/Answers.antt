use Rattle.std.proofs.Common.{ap, ap₂, sym, ◌∙◌, length}
use Rattle.cad_feature.specs.Features.{by_identifier}
use Rattle.cad_layer.proofs.WalkLemmas.{only_changes, comes_before, comes_in_place, comes_behind}
use Rattle.cad_layer.proofs.walk.Walk.next.Goals as goal
use Rattle.cad_layer.specs.lemmas.ItemLemmas.{front_as, items_total, rest_rises}
use Rattle.cad_layer.specs.lemmas.MergeLemmas.{merged_ascends}
use Rattle.cad_layer.specs.Walks.{all_in}

pub invariant_of-self : goal.invariant_of-self
invariant_of-self c = ((c.next.ensures.earlier, c.next.ensures.later), (merged_ascends by_identifier items_total _ c.next.new.self.later.now c.next.ensures.earlier, c.self.invariant.1.1))

pub invariant_of-self-in_default-next : goal.invariant_of-self-in_default-next
invariant_of-self-in_default-next c = (c.self.invariant.0, (c.self.invariant.1.0, rest_rises by_identifier _ _ _ c.in-Some.ensures.cases.0 c.self.invariant.1.1))

pub returns-in_default-next : goal.returns-in_default-next
returns-in_default-next c =
    let none = ap length (ap₂ all_in (sym c.again-indexed.ensures.earlier) (sym c.again-indexed.ensures.later) ∙ c.in_default-next.ensures.next) in
    sym c.self.view_is ∙ only_changes items_total _ _ _ _ none (front_as _ _ _ _ c.in-Some.ensures.cases.0 c.feature-c.ensures) c.self.invariant.1.1

pub invariant_of-self-in-Less : goal.invariant_of-self-in-Less
invariant_of-self-in-Less c = (c.self.invariant.0, (c.self.invariant.1.0, rest_rises by_identifier _ _ _ c.in-Some.ensures.cases.0 c.self.invariant.1.1))

pub invariant_of-self-in-Equal : goal.invariant_of-self-in-Equal
invariant_of-self-in-Equal c =
    ((c.next-2.ensures.earlier, c.next-2.ensures.later), (merged_ascends by_identifier items_total _ c.next-2.new.self.later.now c.next-2.ensures.earlier, rest_rises by_identifier _ _ _ c.in-Some.ensures.cases.0 c.self.invariant.1.1))

pub invariant_of-self-in-Greater : goal.invariant_of-self-in-Greater
invariant_of-self-in-Greater c = ((c.next-2.ensures.earlier, c.next-2.ensures.later), (merged_ascends by_identifier items_total _ c.next-2.new.self.later.now c.next-2.ensures.earlier, c.self.invariant.1.1))

pub returns-in-Less : goal.returns-in-Less
returns-in-Less c =
    let first = ap₂ all_in (sym c.again-indexed.ensures.earlier) (sym c.again-indexed.ensures.later) ∙ c.in-Some-next.ensures.next in
    sym c.self.view_is ∙ comes_before items_total _ _ _ _ _ _ first (front_as _ _ _ _ c.in-Some.ensures.cases.0 c.feature-c.ensures) c.self.invariant.1.0 c.self.invariant.1.1 (sym c.compare.ensures ∙ c.in-Less.is)

pub returns-in-Equal : goal.returns-in-Equal
returns-in-Equal c =
    let first = ap₂ all_in (sym c.again-indexed.ensures.earlier) (sym c.again-indexed.ensures.later) ∙ c.in-Some-next.ensures.next in
    sym c.self.view_is ∙ comes_in_place items_total _ _ _ _ _ _ first (front_as _ _ _ _ c.in-Some.ensures.cases.0 c.feature-c.ensures) c.self.invariant.1.0 c.self.invariant.1.1 (sym c.compare.ensures ∙ c.in-Equal.is)

pub returns-in-Greater : goal.returns-in-Greater
returns-in-Greater c =
    let first = ap₂ all_in (sym c.again-indexed.ensures.earlier) (sym c.again-indexed.ensures.later) ∙ c.in-Some-next.ensures.next in
    sym c.self.view_is ∙ comes_behind items_total _ _ _ _ _ _ first (front_as _ _ _ _ c.in-Some.ensures.cases.0 c.feature-c.ensures) c.self.invariant.1.0 c.self.invariant.1.1 (sym c.compare.ensures ∙ c.in-Greater.is)
