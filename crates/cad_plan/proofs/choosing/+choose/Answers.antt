use Rattle.std.proofs.Common.{length, ◌∙◌, ap, sym, subst, map, ◌∷◌, ◌++◌, [], ◌+◌, drop, nat_lt, arith}
use Rattle.cad_grid.specs.Blocks.{block_of}
use Rattle.cad_lookup.specs.WayLaws.{cost_join, way_All, way_Empty, way_Join, way_Meet, way_Near, way_Range}
use Rattle.cad_lookup.specs.Ways.{all_features, cost, counts_of, join_of, near_block, no_feature, range_way, way_of, ways_in}
use Rattle.cql_rewrite.specs.inner.Choices.{EachCosts, and_choice, met, met_cost, narrow_costs}
use Rattle.cql_rewrite.specs.Menus.{cheaper}
use Rattle.cad_plan.specs.Leaves.{leaf_counts}
use Rattle.cad_plan.specs.inner.Gathered.{with_if}
use Rattle.cad_plan.specs.inner.Pruned.{StandAt, pruned}
use Rattle.cad_plan.proofs.LeafLemmas.{all_leaf, join_leaves, leaves_from, leaves_of_plans, meet_leaves, near_leaf, none_leaf, range_leaf}
use Rattle.cad_plan.proofs.ListLemmas.{done, map_next, map_over, map_push, moved, narrow_cost, narrow_next, summed}
use Rattle.cad_plan.proofs.PrunedLemmas.{each_costs, of_all, of_join, of_meet, of_near, of_none, of_range, pruned_costs}
use Rattle.cad_plan.proofs.StandLemmas.{leaf_cost, leaf_passed, leaf_within, part_passed}
use Rattle.cad_plan.proofs.Weights.{falls_join, falls_meet, falls_part}
use Rattle.cad_plan.proofs.WindowLemmas.{stand_first, stand_rest}
use Rattle.cad_plan.proofs.choosing.+choose.Goals as goal

-- ---- leaves

pub chosen-next-cost-requires : goal.chosen-next-cost-requires
chosen-next-cost-requires m c =
    let counts = counts_of c.args.features.now.features in
    leaf_within counts (way_of c.args.full.now) all_features c.args.counts.now c.args.at.now (ap way_of c.in-All.is ∙ way_All) (all_leaf counts) c.requires.counts

pub chosen-returns-in-All-clause-at : goal.chosen-returns-in-All-clause-at
chosen-returns-in-All-clause-at m c =
    let counts = counts_of c.args.features.now.features in
    leaf_passed counts (way_of c.args.full.now) all_features c.args.counts.now c.args.at.now (ap way_of c.in-All.is ∙ way_All) (all_leaf counts) c.requires.counts _ c.next-cost.ensures.at

pub chosen-returns-in-All-clause-cost : goal.chosen-returns-in-All-clause-cost
chosen-returns-in-All-clause-cost m c =
    let counts = counts_of c.args.features.now.features in
    leaf_cost counts (way_of c.args.full.now) all_features c.args.counts.now c.args.at.now (ap way_of c.in-All.is ∙ way_All) (all_leaf counts) c.requires.counts c.next-cost.result c.next-cost.ensures.count ∙ sym (ap (cost counts) way_All)

pub chosen-returns-in-All-clause-way : goal.chosen-returns-in-All-clause-way
chosen-returns-in-All-clause-way m c =
    let counts = counts_of c.args.features.now.features in
    way_All ∙ sym (ap (pruned counts) (ap way_of c.in-All.is ∙ way_All) ∙ of_all counts)

pub chosen-next-cost-requires-in-Empty : goal.chosen-next-cost-requires-in-Empty
chosen-next-cost-requires-in-Empty m c =
    let counts = counts_of c.args.features.now.features in
    leaf_within counts (way_of c.args.full.now) no_feature c.args.counts.now c.args.at.now (ap way_of c.in-Empty.is ∙ way_Empty) (none_leaf counts) c.requires.counts

pub chosen-returns-in-Empty-clause-at : goal.chosen-returns-in-Empty-clause-at
chosen-returns-in-Empty-clause-at m c =
    let counts = counts_of c.args.features.now.features in
    leaf_passed counts (way_of c.args.full.now) no_feature c.args.counts.now c.args.at.now (ap way_of c.in-Empty.is ∙ way_Empty) (none_leaf counts) c.requires.counts _ c.next-cost-in-Empty.ensures.at

pub chosen-all_or-requires-clause-cost : goal.chosen-all_or-requires-clause-cost
chosen-all_or-requires-clause-cost m c =
    let counts = counts_of c.args.features.now.features in
    leaf_cost counts (way_of c.args.full.now) no_feature c.args.counts.now c.args.at.now (ap way_of c.in-Empty.is ∙ way_Empty) (none_leaf counts) c.requires.counts c.next-cost-in-Empty.result c.next-cost-in-Empty.ensures.count ∙ sym (ap (cost counts) (way_Empty))

pub chosen-returns-in-Empty-clause-way : goal.chosen-returns-in-Empty-clause-way
chosen-returns-in-Empty-clause-way m c =
    let counts = counts_of c.args.features.now.features in
    c.all_or.ensures.way ∙ ap (cheaper counts all_features) (way_Empty) ∙ sym (ap (pruned counts) (ap way_of c.in-Empty.is ∙ way_Empty) ∙ of_none counts)

pub chosen-next-cost-requires-in-Range : goal.chosen-next-cost-requires-in-Range
chosen-next-cost-requires-in-Range m c =
    let counts = counts_of c.args.features.now.features in
    leaf_within counts (way_of c.args.full.now) (range_way c.in-Range.range) c.args.counts.now c.args.at.now (ap way_of c.in-Range.is ∙ way_Range c.in-Range.range) (range_leaf counts _ _ _) c.requires.counts

pub chosen-returns-in_ok-plan-in-Range-clause-at : goal.chosen-returns-in_ok-plan-in-Range-clause-at
chosen-returns-in_ok-plan-in-Range-clause-at m c =
    let counts = counts_of c.args.features.now.features in
    leaf_passed counts (way_of c.args.full.now) (range_way c.in-Range.range) c.args.counts.now c.args.at.now (ap way_of c.in-Range.is ∙ way_Range c.in-Range.range) (range_leaf counts _ _ _) c.requires.counts _ c.next-cost-in-Range.ensures.at

pub chosen-all_or-requires-in-Range-clause-cost : goal.chosen-all_or-requires-in-Range-clause-cost
chosen-all_or-requires-in-Range-clause-cost m c =
    let counts = counts_of c.args.features.now.features in
    leaf_cost counts (way_of c.args.full.now) (range_way c.in-Range.range) c.args.counts.now c.args.at.now (ap way_of c.in-Range.is ∙ way_Range c.in-Range.range) (range_leaf counts _ _ _) c.requires.counts c.next-cost-in-Range.result c.next-cost-in-Range.ensures.count ∙ sym (ap (cost counts) (c.in_ok-plan-in-Range.ensures))

pub chosen-returns-in_ok-plan-in-Range-clause-way : goal.chosen-returns-in_ok-plan-in-Range-clause-way
chosen-returns-in_ok-plan-in-Range-clause-way m c =
    let counts = counts_of c.args.features.now.features in
    c.all_or-in-Range.ensures.way ∙ ap (cheaper counts all_features) (c.in_ok-plan-in-Range.ensures) ∙ sym (ap (pruned counts) (ap way_of c.in-Range.is ∙ way_Range c.in-Range.range) ∙ of_range counts _ _ _)

pub chosen-next-cost-requires-in-Near : goal.chosen-next-cost-requires-in-Near
chosen-next-cost-requires-in-Near m c =
    let counts = counts_of c.args.features.now.features in
    leaf_within counts (way_of c.args.full.now) (near_block c.in-Near.property (block_of c.in-Near.bounds)) c.args.counts.now c.args.at.now (ap way_of c.in-Near.is ∙ way_Near c.in-Near.property c.in-Near.bounds) (near_leaf counts _ _) c.requires.counts

pub chosen-returns-in-Near-clause-at : goal.chosen-returns-in-Near-clause-at
chosen-returns-in-Near-clause-at m c =
    let counts = counts_of c.args.features.now.features in
    leaf_passed counts (way_of c.args.full.now) (near_block c.in-Near.property (block_of c.in-Near.bounds)) c.args.counts.now c.args.at.now (ap way_of c.in-Near.is ∙ way_Near c.in-Near.property c.in-Near.bounds) (near_leaf counts _ _) c.requires.counts _ c.next-cost-in-Near.ensures.at

pub chosen-all_or-requires-in-Near-clause-cost : goal.chosen-all_or-requires-in-Near-clause-cost
chosen-all_or-requires-in-Near-clause-cost m c =
    let counts = counts_of c.args.features.now.features in
    leaf_cost counts (way_of c.args.full.now) (near_block c.in-Near.property (block_of c.in-Near.bounds)) c.args.counts.now c.args.at.now (ap way_of c.in-Near.is ∙ way_Near c.in-Near.property c.in-Near.bounds) (near_leaf counts _ _) c.requires.counts c.next-cost-in-Near.result c.next-cost-in-Near.ensures.count ∙ sym (ap (cost counts) (way_Near c.in-Near.property c.in-Near.bounds))

pub chosen-returns-in-Near-clause-way : goal.chosen-returns-in-Near-clause-way
chosen-returns-in-Near-clause-way m c =
    let counts = counts_of c.args.features.now.features in
    c.all_or-in-Near.ensures.way ∙ ap (cheaper counts all_features) (way_Near c.in-Near.property c.in-Near.bounds) ∙ sym (ap (pruned counts) (ap way_of c.in-Near.is ∙ way_Near c.in-Near.property c.in-Near.bounds) ∙ of_near counts _ _)

-- ---- the parts of a meet, and of a join

pub chosen-narrow-requires : goal.chosen-narrow-requires
chosen-narrow-requires m c =
    let counts = counts_of c.args.features.now.features in
    let v = c.in-Meet.parts in
    let same = ap (λ p. leaf_counts counts (way_of p)) c.in-Meet.is ∙ ap (leaf_counts counts) (way_Meet v) ∙ meet_leaves counts (map way_of v.items) in
    let stand = subst (λ xs. StandAt xs c.args.counts.now c.args.at.now) (same ∙ ap (leaves_of_plans counts) (sym c.deref.ensures.value)) c.requires.counts in
    let falls = falls_meet (way_of c.args.full.now) (map way_of v.items) m (ap way_of c.in-Meet.is ∙ way_Meet v) c.decreases in
    (rw (← c.deref.ensures.value) at falls, (c.requires.every, stand))

pub chosen-joined-requires : goal.chosen-joined-requires
chosen-joined-requires m c =
    let counts = counts_of c.args.features.now.features in
    let v = c.in-Join.parts in
    let same = ap (λ p. leaf_counts counts (way_of p)) c.in-Join.is ∙ ap (leaf_counts counts) (way_Join v) ∙ join_leaves counts (map way_of v.items) in
    let stand = subst (λ xs. StandAt xs c.args.counts.now c.args.at.now) (same ∙ ap (leaves_of_plans counts) (sym c.deref-in-Join.ensures.value)) c.requires.counts in
    let falls = falls_join (way_of c.args.full.now) (map way_of v.items) m (ap way_of c.in-Join.is ∙ way_Join v) c.decreases in
    (rw (← c.deref-in-Join.ensures.value) at falls, (c.requires.every, stand))

pub chosen-returns-in_ok-narrow-in-Meet-clause-way : goal.chosen-returns-in_ok-narrow-in-Meet-clause-way
chosen-returns-in_ok-narrow-in-Meet-clause-way m c =
    let counts = counts_of c.args.features.now.features in
    let v = c.in-Meet.parts in
    c.meet.ensures ∙ ap met (rw c.deref.ensures.value at c.in_ok-narrow-in-Meet.ensures.ways)
    ∙ sym (ap (λ p. pruned counts (way_of p)) c.in-Meet.is ∙ ap (pruned counts) (way_Meet v) ∙ of_meet counts (map way_of v.items) ∙ and_choice counts (map (pruned counts) (map way_of v.items)) (each_costs counts (map way_of v.items)))

pub chosen-returns-in_ok-narrow-in-Meet-clause-cost : goal.chosen-returns-in_ok-narrow-in-Meet-clause-cost
chosen-returns-in_ok-narrow-in-Meet-clause-cost m c =
    let counts = counts_of c.args.features.now.features in
    let v = c.in-Meet.parts in
    let each = subst (EachCosts counts) (sym (rw c.deref.ensures.value at c.in_ok-narrow-in-Meet.ensures.ways)) (narrow_costs counts (map (pruned counts) (map way_of v.items)) (each_costs counts (map way_of v.items))) in
    c.in_ok-narrow-in-Meet.ensures.cost ∙ sym (ap (cost counts) c.meet.ensures ∙ met_cost counts (map way_of c.in_ok-narrow-in-Meet.narrow.plans.items) each)

pub chosen-returns-in_ok-narrow-in-Meet-clause-at : goal.chosen-returns-in_ok-narrow-in-Meet-clause-at
chosen-returns-in_ok-narrow-in-Meet-clause-at m c =
    let counts = counts_of c.args.features.now.features in
    let v = c.in-Meet.parts in
    let same = ap (λ p. leaf_counts counts (way_of p)) c.in-Meet.is ∙ ap (leaf_counts counts) (way_Meet v) ∙ meet_leaves counts (map way_of v.items) in
    (rw c.deref.ensures.value at c.in_ok-narrow-in-Meet.ensures.at) ∙ ap (λ xs. c.args.at.now + length xs) (sym same)

pub chosen-returns-in_ok-joined-in-Join-clause-way : goal.chosen-returns-in_ok-joined-in-Join-clause-way
chosen-returns-in_ok-joined-in-Join-clause-way m c =
    let counts = counts_of c.args.features.now.features in
    let v = c.in-Join.parts in
    c.all_or-in-Join.ensures.way ∙ ap (cheaper counts all_features) (rw c.deref-in-Join.ensures.value at c.in_ok-joined-in-Join.ensures.way)
    ∙ sym (ap (λ p. pruned counts (way_of p)) c.in-Join.is ∙ ap (pruned counts) (way_Join v) ∙ of_join counts (map way_of v.items))

pub chosen-returns-in_ok-joined-in-Join-clause-at : goal.chosen-returns-in_ok-joined-in-Join-clause-at
chosen-returns-in_ok-joined-in-Join-clause-at m c =
    let counts = counts_of c.args.features.now.features in
    let v = c.in-Join.parts in
    let same = ap (λ p. leaf_counts counts (way_of p)) c.in-Join.is ∙ ap (leaf_counts counts) (way_Join v) ∙ join_leaves counts (map way_of v.items) in
    (rw c.deref-in-Join.ensures.value at c.in_ok-joined-in-Join.ensures.at) ∙ ap (λ xs. c.args.at.now + length xs) (sym same)

-- ---- loops

pub narrow-chosen-requires : goal.narrow-chosen-requires
narrow-chosen-requires m c =
    let counts = counts_of c.args.features.now.features in
    let left = leaves_from counts c.args.parts.now c.loop-part.part-index c.part-item.result c.loop-part-test.true c.part-item.is in
    let stand = stand_first (leaf_counts counts (way_of c.part-item.result)) (leaves_of_plans counts (drop (c.loop-part.part-index + 1) c.args.parts.now)) c.args.counts.now c.loop-part.at (subst (λ xs. StandAt xs c.args.counts.now c.loop-part.at) left c.loop-part.invariant.stand) in
    (falls_part c.args.parts.now c.loop-part.part-index c.part-item.result m c.loop-part-test.true c.part-item.is c.decreases, (c.requires.every, stand))

pub joined-chosen-requires : goal.joined-chosen-requires
joined-chosen-requires m c =
    let counts = counts_of c.args.features.now.features in
    let left = leaves_from counts c.args.parts.now c.loop-part.part-index c.part-item.result c.loop-part-test.true c.part-item.is in
    let stand = stand_first (leaf_counts counts (way_of c.part-item.result)) (leaves_of_plans counts (drop (c.loop-part.part-index + 1) c.args.parts.now)) c.args.counts.now c.loop-part.at (subst (λ xs. StandAt xs c.args.counts.now c.loop-part.at) left c.loop-part.invariant.stand) in
    (falls_part c.args.parts.now c.loop-part.part-index c.part-item.result m c.loop-part-test.true c.part-item.is c.decreases, (c.requires.every, stand))

pub joined-loop-part-preserved : goal.joined-loop-part-preserved
joined-loop-part-preserved m c =
    let counts = counts_of c.args.features.now.features in
    let old = map way_of c.loop-part.plans.items in
    let w = pruned counts (way_of c.part-item.result) in
    let i = c.loop-part.part-index in
    let rest = drop (i + 1) c.args.parts.now in
    let left = leaves_from counts c.args.parts.now i c.part-item.result c.loop-part-test.true c.part-item.is in
    let part = leaf_counts counts (way_of c.part-item.result) in
    let more = ap (map way_of) c.in_ok-push.ensures.items ∙ map_push way_of c.loop-part.plans.items c.in_ok-chosen.chosen.plan ∙ ap (λ v. old ++ v ∷ []) c.in_ok-chosen.ensures.way in
    record {
      ways = moved old (map way_of c.push.new.self.items) (map (pruned counts) (map way_of (drop i c.args.parts.now))) (map (pruned counts) (map way_of rest)) _ w more
          (ap (map (pruned counts)) (map_next way_of c.args.parts.now i c.part-item.result c.loop-part-test.true c.part-item.is)) c.loop-part.invariant.ways;
      cost = summed counts old (map way_of c.push.new.self.items) w c.loop-part.cost c.in_ok-chosen.chosen.cost c.saturating_add-cost.result more
          (c.in_ok-chosen.ensures.cost ∙ ap (cost counts) c.in_ok-chosen.ensures.way) c.loop-part.invariant.cost c.saturating_add-cost.ensures;
      stand = subst (StandAt (leaves_of_plans counts rest) c.args.counts.now) (sym c.in_ok-chosen.ensures.at)
          (stand_rest part (leaves_of_plans counts rest) c.args.counts.now c.loop-part.at (subst (λ xs. StandAt xs c.args.counts.now c.loop-part.at) left c.loop-part.invariant.stand));
      passed = part_passed c.args.at.now c.loop-part.at c.chosen.new.at _ _ part (leaves_of_plans counts rest) left c.in_ok-chosen.ensures.at c.loop-part.invariant.passed;
    }

pub joined-returns-clause-way : goal.joined-returns-clause-way
joined-returns-clause-way m c =
    let counts = counts_of c.args.features.now.features in
    way_Join c.loop-part.plans
    ∙ ap (λ ws. join_of (ways_in ws)) (done (map way_of c.loop-part.plans.items) _ _ (ap (map (pruned counts)) (map_over way_of c.args.parts.now c.loop-part.part-index (omega (arith, c.loop-part-test.false)))) c.loop-part.invariant.ways)

pub joined-returns-clause-cost : goal.joined-returns-clause-cost
joined-returns-clause-cost m c =
    let counts = counts_of c.args.features.now.features in
    c.loop-part.invariant.cost ∙ sym (ap (cost counts) (way_Join c.loop-part.plans) ∙ cost_join counts (map way_of c.loop-part.plans.items))

pub narrow-loop-part-preserved : goal.narrow-loop-part-preserved
narrow-loop-part-preserved m c =
    let counts = counts_of c.args.features.now.features in
    let w = pruned counts (way_of c.part-item.result) in
    let i = c.loop-part.part-index in
    let rest = drop (i + 1) c.args.parts.now in
    let left = leaves_from counts c.args.parts.now i c.part-item.result c.loop-part-test.true c.part-item.is in
    let part_counts = leaf_counts counts (way_of c.part-item.result) in
    let old = map way_of c.loop-part.narrow.plans.items in
    let new = map way_of c.add.new.self.plans.items in
    let is_less = nat_lt c.in_ok-chosen.chosen.cost c.args.every in
    let part = c.in_ok-chosen.ensures.cost ∙ ap (cost counts) c.in_ok-chosen.ensures.way in
    let more = c.in_ok-add.ensures.plans ∙ ap (with_if is_less old) c.in_ok-chosen.ensures.way in
    record {
      ways = narrow_next counts c.args.every c.in_ok-chosen.chosen.cost old new (map (pruned counts) (map way_of (drop i c.args.parts.now))) (map (pruned counts) (map way_of rest)) _ w
          c.requires.every part (pruned_costs counts (way_of c.part-item.result)) more
          (ap (map (pruned counts)) (map_next way_of c.args.parts.now i c.part-item.result c.loop-part-test.true c.part-item.is)) c.loop-part.invariant.ways;
      cost = narrow_cost counts (length c.args.features.now.features) c.in_ok-chosen.chosen.cost c.loop-part.narrow.cost c.add.new.self.cost old new w is_less part more c.in_ok-add.ensures.cost c.loop-part.invariant.cost;
      stand = subst (StandAt (leaves_of_plans counts rest) c.args.counts.now) (sym c.in_ok-chosen.ensures.at)
          (stand_rest part_counts (leaves_of_plans counts rest) c.args.counts.now c.loop-part.at (subst (λ xs. StandAt xs c.args.counts.now c.loop-part.at) left c.loop-part.invariant.stand));
      passed = part_passed c.args.at.now c.loop-part.at c.chosen.new.at _ _ part_counts (leaves_of_plans counts rest) left c.in_ok-chosen.ensures.at c.loop-part.invariant.passed;
    }
