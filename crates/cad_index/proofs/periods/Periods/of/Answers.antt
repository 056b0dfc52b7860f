use Rattle.std.proofs.Common.{◌≡◌, ◌+◌, ◌≤◌, true, false, nat_lt, ap, sym, refl, arith, take}
use Rattle.std.specs.List.{All}
use Rattle.std.proofs.lemmas.Bool.Decides.{nat_tests}
use Rattle.std.proofs.lemmas.List.{take_all, take_more}
use Rattle.std.proofs.lemmas.List.Elements.{All-push}
use Rattle.std.proofs.lemmas.List.Sorted.{IsNonDecreasingBy-from_sort}
use Rattle.cad_feature.specs.Features.{Item}
use Rattle.cad_index.specs.inner.Periods.{is_ever_shown, is_ended}
use Rattle.cad_index.proofs.PeriodLemmas.{time_added, no_time_added}
use Rattle.cad_index.proofs.periods.Periods.of.Goals.{then-period+in_ok-push+then-period-lt4294967295+in_ok-push-2, then-period+in_ok-push+else-period-lt4294967295, else-period}
use Rattle.cad_index.proofs.periods.Periods.of.Goals as goal

pub loop-feature-preserved : goal.loop-feature-preserved
loop-feature-preserved c =
    let xs = c.args.features.now in
    let i = c.loop-feature.feature-index in
    let x = c.feature-item.result in
    let start = ap (λ (y : Item). y.period.start) c.feature.view_is in
    let end = ap (λ (y : Item). y.period.end) c.feature.view_is in
    let few : x.period.end ≤ 4294967295 = omega (arith, end) in
    let bounded : All (λ y. y.period.end ≤ 4294967295) (take (i + 1) xs) = rw (take_more xs i x c.loop-feature-test.true, sym c.feature-item.is) (All-push (λ y. y.period.end ≤ 4294967295) (take i xs) x c.loop-feature.invariant.bounded few) in
    elim c.if-period.branch [
      | then-period+in_ok-push+then-period-lt4294967295+in_ok-push-2 w ↦
          let ever : nat_lt x.period.start x.period.end ≡ true = grind (arith, nat_tests, w.if-period.true, start, end) in
          let ends : nat_lt x.period.end 4294967295 ≡ true = grind (arith, nat_tests, w.if-period-lt4294967295.true, end) in
          rw (w.starts-is, w.ends-is) (record {
            starts = time_added is_ever_shown (λ y. y.period.start) xs i x c.loop-feature-test.true c.feature-item.is c.loop-feature.starts.items _ _ ever c.loop-feature.invariant.starts start w.in_ok-push.ensures.items;
            ends = time_added is_ended (λ y. y.period.end) xs i x c.loop-feature-test.true c.feature-item.is c.loop-feature.ends.items _ _ (rw (ever, ends) refl) c.loop-feature.invariant.ends end w.in_ok-push-2.ensures.items;
            bounded = bounded;
          })
      | then-period+in_ok-push+else-period-lt4294967295 w ↦
          let ever : nat_lt x.period.start x.period.end ≡ true = grind (arith, nat_tests, w.if-period.true, start, end) in
          let ends : nat_lt x.period.end 4294967295 ≡ false = grind (arith, nat_tests, w.if-period-lt4294967295.false, end) in
          rw (w.starts-is, w.ends-is) (record {
            starts = time_added is_ever_shown (λ y. y.period.start) xs i x c.loop-feature-test.true c.feature-item.is c.loop-feature.starts.items _ _ ever c.loop-feature.invariant.starts start w.in_ok-push.ensures.items;
            ends = no_time_added is_ended (λ y. y.period.end) xs i x c.loop-feature-test.true c.feature-item.is c.loop-feature.ends.items (rw (ever, ends) refl) c.loop-feature.invariant.ends;
            bounded = bounded;
          })
      | else-period w ↦
          let never : nat_lt x.period.start x.period.end ≡ false = grind (arith, nat_tests, w.if-period.false, start, end) in
          rw (w.starts-is, w.ends-is) (record {
            starts = no_time_added is_ever_shown (λ y. y.period.start) xs i x c.loop-feature-test.true c.feature-item.is c.loop-feature.starts.items never c.loop-feature.invariant.starts;
            ends = no_time_added is_ended (λ y. y.period.end) xs i x c.loop-feature-test.true c.feature-item.is c.loop-feature.ends.items (rw never refl) c.loop-feature.invariant.ends;
            bounded = bounded;
          })
    ]

pub returns : goal.returns
returns c =
    let all = take_all c.loop-feature.feature-index c.args.features.now c.loop-feature-test.false in
    let starts = rw all at c.loop-feature.invariant.starts in
    let ends = rw all at c.loop-feature.invariant.ends in
    record {
      starts = record {
        same = rw (sym starts) c.sort_unstable.ensures.permutation;
        ascend = IsNonDecreasingBy-from_sort (λ time. time) _ c.sort_unstable.ensures.sorted;
      };
      ends = record {
        same = rw (sym ends, sym c.shrink_to_fit.ensures.items) c.sort_unstable-2.ensures.permutation;
        ascend = IsNonDecreasingBy-from_sort (λ time. time) _ c.sort_unstable-2.ensures.sorted;
      };
      bounded = rw all at c.loop-feature.invariant.bounded;
    }
