use Rattle.std.proofs.Common.{◌≡◌, ℕ, ◌+◌, ◌*◌, ◌<◌, ◌≤◌, ℤ, pos, neg_ℤ, ◌+ℤ◌, ◌≤ℤ◌, FitsSigned, to_z, of_z, List, length, drop, get_or, sym, ap, ◌∙◌, arith}
use mir.Syntax.{w128}
use Rattle.std.proofs.lemmas.Int.{ints}
use Rattle.std.proofs.lemmas.List.{at_drop_more}
use Rattle.cad_shape.specs.Areas.{sweep, doubled_area, IsSweep}
use Rattle.cad_shape.specs.Edges.{walk}
use Rattle.cad_shape.specs.declared.point.Point.{Point}
use Rattle.cad_shape.proofs.Signs.{sums}
use Rattle.cad_shape.proofs.area.swept_over.Goals as goal

sum_fits : (s t : ℤ) (i n : ℕ) → i < n → n ≤ 1000 → neg_ℤ (pos (80000000000000000000000 * i)) ≤ℤ s → s ≤ℤ pos (80000000000000000000000 * i) → IsSweep t → FitsSigned w128 (s +ℤ to_z w128 (of_z w128 t))
sum_fits s t i n h k l m o = omega (arith, ints)

sum_is : (s t : ℤ) (i n : ℕ) → i < n → n ≤ 1000 → neg_ℤ (pos (80000000000000000000000 * i)) ≤ℤ s → s ≤ℤ pos (80000000000000000000000 * i) → IsSweep t → to_z w128 (of_z w128 (s +ℤ to_z w128 (of_z w128 t))) ≡ s +ℤ t
sum_is s t i n h k l m o = omega (arith, ints)

low : (s t : ℤ) (i : ℕ) → neg_ℤ (pos (80000000000000000000000 * i)) ≤ℤ s → IsSweep t → neg_ℤ (pos (80000000000000000000000 * (i + 1))) ≤ℤ (s +ℤ t)
low s t i h k = omega (arith, ints)

high : (s t : ℤ) (i : ℕ) → s ≤ℤ pos (80000000000000000000000 * i) → IsSweep t → (s +ℤ t) ≤ℤ pos (80000000000000000000000 * (i + 1))
high s t i h k = omega (arith, ints)

step : (cs : List Point) (i : ℕ) (from c : Point) (all s t : ℤ) → i < length cs → c ≡ get_or cs i c → all ≡ s +ℤ doubled_area (walk from (drop i cs)) → t ≡ sweep from c → all ≡ (s +ℤ t) +ℤ doubled_area (walk c (drop (i + 1) cs))
step cs i from c all s t h is e f =
    let d : doubled_area (walk from (drop i cs)) ≡ sweep from c +ℤ doubled_area (walk c (drop (i + 1) cs)) = at_drop_more (λ qs. doubled_area (walk from qs)) cs i c h ∙ ap (λ z. sweep from z +ℤ doubled_area (walk z (drop (i + 1) cs))) (sym is) in
    omega (arith, sums)

pub overflow_add-sum : goal.overflow_add-sum
overflow_add-sum c =
    let v = c.loop-corner.invariant in
    sum_fits _ c.sweep_of-sum.result c.loop-corner.corner-index _ c.loop-corner-test.true c.requires v.low v.high c.sweep_of-sum.ensures.small

pub loop-corner-preserved : goal.loop-corner-preserved
loop-corner-preserved c =
    let v = c.loop-corner.invariant in
    let t = c.sweep_of-sum.result in
    let i = c.loop-corner.corner-index in
    let small = c.sweep_of-sum.ensures.small in
    let e = sum_is _ t i _ c.loop-corner-test.true c.requires v.low v.high small in
    record {
      summed = rw e (step c.args.corners.now i c.loop-corner.from c.corner-item.result _ _ t c.loop-corner-test.true c.corner-item.is v.summed c.sweep_of-sum.ensures.value);
      low = rw e (low _ t i v.low small);
      high = rw e (high _ t i v.high small);
    }
