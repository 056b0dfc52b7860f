use Rattle.std.proofs.Common.{◌≡◌, ◌∙◌, ◌++◌, ◌-◌, ◌<◌, ◌≤◌, [], ◌∷◌, ap, append_assoc, arith, drop, false, length, refl, reverse, rules, subst, sym, take, true}
use Rattle.std.specs.List.{AllByRecursion}
use Rattle.std.specs.List.Sorted.{IsPartitionPoint, IsStrictlySortedBy}
use Rattle.std.proofs.lemmas.List.{length-take-le, reverse-append, take-append-drop}
use Rattle.std.proofs.lemmas.List.Sorted.{IsPartitionPoint-from_clause}
use Rattle.cad_feature.specs.Features.{AreFeaturesOf, by_identifier}
use Rattle.cad_layer.specs.Segments.{AreApart, AreSegments, SegmentFeatures, is_from, joined}
use Rattle.cad_layer.proofs.CuttingLemmas.{below_parted, cut_apart, cut_before, cut_behind, cut_ends, cut_within, ending, is_below}
use Rattle.cad_layer.proofs.SpreadingLemmas.{filtered}
use Rattle.cad_layer.proofs.cutting.cut.Goals as goal

pub build-requires-clause-listed : goal.build-requires-clause-listed
build-requires-clause-listed c =
    let k = c.object_of-start.result in
    let old = c.loop-left.left.items in
    let at = c.partition_point-at.result in
    let seen = c.deref.ensures.value in
    let up = c.loop-left.invariant.listed in
    let split = subst (λ ys. IsPartitionPoint (λ y. is_below k y ≡ true) (λ y. is_below k y ≡ false) ys at) seen (IsPartitionPoint-from_clause (is_below k) c.deref.result.now at c.partition_point-at.ensures.partitioned (below_parted k c.deref.result.now (subst (IsStrictlySortedBy by_identifier) (sym seen) up.ascending)) (λ a r f' j. search rules)) in
    subst (AreFeaturesOf c.args.collection) (sym (c.in_ok-behind.ensures.tail ∙ cut_behind k old at split)) (filtered c.args.collection (is_from k) old up)

pub loop-left-smaller : goal.loop-left-smaller
loop-left-smaller c =
    let k = c.object_of-start.result in
    let old = c.loop-left.left.items in
    let at = c.partition_point-at.result in
    let seen = c.deref.ensures.value in
    let up = c.loop-left.invariant.listed in
    let split = subst (λ ys. IsPartitionPoint (λ y. is_below k y ≡ true) (λ y. is_below k y ≡ false) ys at) seen (IsPartitionPoint-from_clause (is_below k) c.deref.result.now at c.partition_point-at.ensures.partitioned (below_parted k c.deref.result.now (subst (IsStrictlySortedBy by_identifier) (sym seen) up.ascending)) (λ a r f' j. search rules)) in
    let i = c.len-in-loop-left.result - 1 - c.args.least in
    let few : at ≤ length old = subst (λ ys. at ≤ length ys) seen c.partition_point-at.ensures.bound in
    let within : i < length old = omega (arith, c.len-in-loop-left.ensures, c.loop-left-test.true, c.len.ensures) in
    omega (arith, within, cut_within c.args.collection old c.split_off.new.self.items c.in_ok-behind.behind.items (reverse c.loop-left.segments.items) k i at c.index.result.now c.object_of-start.ensures c.index.ensures within split, ap length c.in_ok-behind.ensures.items, length-take-le at old few)

pub loop-left-preserved : goal.loop-left-preserved
loop-left-preserved c =
    let k = c.object_of-start.result in
    let old = c.loop-left.left.items in
    let at = c.partition_point-at.result in
    let seen = c.deref.ensures.value in
    let up = c.loop-left.invariant.listed in
    let split = subst (λ ys. IsPartitionPoint (λ y. is_below k y ≡ true) (λ y. is_below k y ≡ false) ys at) seen (IsPartitionPoint-from_clause (is_below k) c.deref.result.now at c.partition_point-at.ensures.partitioned (below_parted k c.deref.result.now (subst (IsStrictlySortedBy by_identifier) (sym seen) up.ascending)) (λ a r f' j. search rules)) in
    let i = c.len-in-loop-left.result - 1 - c.args.least in
    let few : at ≤ length old = subst (λ ys. at ≤ length ys) seen c.partition_point-at.ensures.bound in
    let within : i < length old = omega (arith, c.len-in-loop-left.ensures, c.loop-left-test.true, c.len.ensures) in
    let front = c.split_off.new.self.items in
    let tail = c.in_ok-behind.behind.items in
    let segments = reverse c.loop-left.segments.items in
    let x = c.index.result.now in
    let cut : SegmentFeatures = record { start = k; collection = c.args.collection; features = tail } in
    let turned : reverse c.push.new.self.items ≡ cut ∷ segments = ap reverse c.in_ok-push.ensures.items ∙ reverse-append c.loop-left.segments.items (c.in_ok-segment.segment ∷ []) ∙ ap (λ (s : SegmentFeatures). s ∷ segments) c.in_ok-segment.ensures in
    record {
      so_far = c.loop-left.invariant.so_far ∙ ap (λ l. l ++ joined segments) (sym (take-append-drop at old)) ∙ append_assoc (take at old) (drop at old) (joined segments)
          ∙ ap (λ l. l ++ (drop at old ++ joined segments)) (sym c.in_ok-behind.ensures.items) ∙ ap (λ l. front ++ (l ++ joined segments)) (sym c.in_ok-behind.ensures.tail) ∙ ap (λ ss. front ++ joined ss) (sym turned);
      listed = subst (AreFeaturesOf c.args.collection) (sym (c.in_ok-behind.ensures.items ∙ cut_before k old at split)) (filtered c.args.collection (is_below k) old up);
      small = omega (arith, ap length c.in_ok-behind.ensures.items, length-take-le at old few, few, c.loop-left.invariant.small);
      ends = subst (AreApart (ending c.args.collection front)) (sym turned) (cut_ends c.args.collection old front tail segments k i at x c.object_of-start.ensures c.index.ensures within split c.in_ok-behind.ensures.items c.in_ok-behind.ensures.tail c.loop-left.invariant.ends);
      apart = subst AreSegments (sym turned) (cut_apart c.args.collection old front tail segments k i at x c.object_of-start.ensures c.index.ensures within split c.in_ok-behind.ensures.tail c.loop-left.invariant.ends c.loop-left.invariant.apart);
      alike = subst (AllByRecursion (λ (s : SegmentFeatures). s.collection ≡ c.args.collection)) (sym turned) (refl, c.loop-left.invariant.alike);
    }
