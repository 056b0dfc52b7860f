use Rattle.std.proofs.Common.{◌∙◌, ap, sym, subst, map, List, ℕ, arith}
use Rattle.cad_lookup.specs.WayLaws.{way_All, way_Empty, way_Join, way_Meet, way_Near, way_Range}
use Rattle.cad_lookup.specs.Ways.{counts_of, way_of}
use Rattle.cad_plan.specs.Leaves.{leaf_counts}
use Rattle.cad_plan.specs.inner.Windows.{AreCounted}
use Rattle.cad_plan.proofs.LeafLemmas.{all_leaf, join_leaves, leaves_up_to, leaves_up_to_end, meet_leaves, near_leaf, none_leaf, range_leaf, same_leaf}
use Rattle.cad_plan.proofs.WindowLemmas.{counted_more, none_counted}
use Rattle.cad_plan.proofs.counting.+leaves.Goals as goal

pub count_in-returns-in_ok-count_leaf-in-All-clause-counted : goal.count_in-returns-in_ok-count_leaf-in-All-clause-counted
count_in-returns-in_ok-count_leaf-in-All-clause-counted m c =
    let counts = counts_of c.args.features.now.features in
    subst (λ (costs : List ℕ). AreCounted costs c.args.counts.now.items c.args.window.now c.count_leaf.new.counts.items c.count_leaf.new.window)
    (same_leaf counts _ _ (ap way_of c.in-All.is ∙ way_All) (all_leaf counts)) c.in_ok-count_leaf-in-All.ensures.counted

pub count_in-returns-in_ok-count_leaf-in-Empty-clause-counted : goal.count_in-returns-in_ok-count_leaf-in-Empty-clause-counted
count_in-returns-in_ok-count_leaf-in-Empty-clause-counted m c =
    let counts = counts_of c.args.features.now.features in
    subst (λ (costs : List ℕ). AreCounted costs c.args.counts.now.items c.args.window.now c.count_leaf-in-Empty.new.counts.items c.count_leaf-in-Empty.new.window)
    (same_leaf counts _ _ (ap way_of c.in-Empty.is ∙ way_Empty) (none_leaf counts)) c.in_ok-count_leaf-in-Empty.ensures.counted

pub count_in-returns-in_ok-count_leaf-in-Range-clause-counted : goal.count_in-returns-in_ok-count_leaf-in-Range-clause-counted
count_in-returns-in_ok-count_leaf-in-Range-clause-counted m c =
    let counts = counts_of c.args.features.now.features in
    subst (λ (costs : List ℕ). AreCounted costs c.args.counts.now.items c.args.window.now c.count_leaf-in-Range.new.counts.items c.count_leaf-in-Range.new.window)
    (same_leaf counts _ _ (ap way_of c.in-Range.is ∙ way_Range _) (range_leaf counts _ _ _)) c.in_ok-count_leaf-in-Range.ensures.counted

pub count_in-returns-in_ok-count_leaf-in-Near-clause-counted : goal.count_in-returns-in_ok-count_leaf-in-Near-clause-counted
count_in-returns-in_ok-count_leaf-in-Near-clause-counted m c =
    let counts = counts_of c.args.features.now.features in
    subst (λ (costs : List ℕ). AreCounted costs c.args.counts.now.items c.args.window.now c.count_leaf-in-Near.new.counts.items c.count_leaf-in-Near.new.window)
    (same_leaf counts _ _ (ap way_of c.in-Near.is ∙ way_Near _ _) (near_leaf counts _ _)) c.in_ok-count_leaf-in-Near.ensures.counted

pub count_in-returns-in_ok-count_in_all-in-Meet-clause-counted : goal.count_in-returns-in_ok-count_in_all-in-Meet-clause-counted
count_in-returns-in_ok-count_in_all-in-Meet-clause-counted m c =
    let counts = counts_of c.args.features.now.features in
    let v = c.in-Meet.parts in
    subst (λ (costs : List ℕ). AreCounted costs c.args.counts.now.items c.args.window.now c.count_in_all.new.counts.items c.count_in_all.new.window)
    (sym (ap (λ p. leaf_counts counts (way_of p)) c.in-Meet.is ∙ ap (leaf_counts counts) (way_Meet v) ∙ meet_leaves counts (map way_of v.items)))
    (rw c.deref.ensures.value at c.in_ok-count_in_all-in-Meet.ensures.counted)

pub count_in-returns-in_ok-count_in_all-in-Join-clause-counted : goal.count_in-returns-in_ok-count_in_all-in-Join-clause-counted
count_in-returns-in_ok-count_in_all-in-Join-clause-counted m c =
    let counts = counts_of c.args.features.now.features in
    let v = c.in-Join.parts in
    subst (λ (costs : List ℕ). AreCounted costs c.args.counts.now.items c.args.window.now c.count_in_all-in-Join.new.counts.items c.count_in_all-in-Join.new.window)
    (sym (ap (λ p. leaf_counts counts (way_of p)) c.in-Join.is ∙ ap (leaf_counts counts) (way_Join v) ∙ join_leaves counts (map way_of v.items)))
    (rw c.deref-in-Join.ensures.value at c.in_ok-count_in_all-in-Join.ensures.counted)

pub count_in_all-loop-part-preserved : goal.count_in_all-loop-part-preserved
count_in_all-loop-part-preserved m c =
    let counts = counts_of c.args.features.now.features in
    record {
      counted =
          subst (λ (costs : List ℕ). AreCounted costs c.args.counts.now.items c.args.window.now c.count_in.new.counts.items c.count_in.new.window)
          (sym (leaves_up_to counts c.args.parts.now c.loop-part.part-index c.part-item.result c.loop-part-test.true c.part-item.is))
          (counted_more _ _ _ _ _ _ _ _ c.loop-part.invariant.counted c.in_ok-count_in.ensures.counted);
      few = omega (arith, c.loop-part.invariant.few, c.in_ok-count_in.ensures.few);
    }

pub count_in_all-loop-part-init : goal.count_in_all-loop-part-init
count_in_all-loop-part-init m c = record {
  counted = none_counted c.args.counts.now.items c.args.window.now;
  few = omega arith;
}

pub count_in_all-returns-clause-counted : goal.count_in_all-returns-clause-counted
count_in_all-returns-clause-counted m c =
    let counts = counts_of c.args.features.now.features in
    subst (λ (costs : List ℕ). AreCounted costs c.args.counts.now.items c.args.window.now c.loop-part.counts.items c.loop-part.window)
    (leaves_up_to_end counts c.args.parts.now c.loop-part.part-index (omega (arith, c.loop-part-test.false))) c.loop-part.invariant.counted
