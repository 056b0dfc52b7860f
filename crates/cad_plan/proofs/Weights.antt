-- How much there is of a plan: a measure that gets smaller from a plan to its parts.
use Rattle.std.proofs.Common.{◌≡◌, ap, refl, ℕ, zero, suc, ◌+◌, ◌*◌, ◌<◌, ◌≤◌, List, [], ◌∷◌, length, get_or, map, arith}
use Rattle.cad_lookup.specs.declared.plan.Plan.{Plan}
use Rattle.cad_lookup.specs.Ways.{Way, Ways, all_features, no_feature, in_range, near_block, meet_of, join_of, none, more, way_of, ways_in}

unfoldable mutual
  pub weight : Way → ℕ
  weight all_features = 0
  weight no_feature = 0
  weight (in_range property low high) = 0
  weight (near_block property block) = 0
  weight (meet_of ways) = suc (weights ways)
  weight (join_of ways) = suc (weights ways)

  pub weights : Ways → ℕ
  weights none = 0
  weights (more w ws) = weight w + weights ws

abbrev pub weight_of_parts : List Plan → ℕ
weight_of_parts ps = weights (ways_in (map way_of ps))

meet_weight : (ws : List Way) → weight (meet_of (ways_in ws)) ≡ suc (weights (ways_in ws))
unfolding weight
meet_weight ws = refl

join_weight : (ws : List Way) → weight (join_of (ways_in ws)) ≡ suc (weights (ways_in ws))
unfolding weight
join_weight ws = refl

first_weight : (w : Way) (ws : List Way) → weights (ways_in (w ∷ ws)) ≡ weight w + weights (ways_in ws)
unfolding weights
first_weight w ws = refl

part_weight : (ps : List Plan) (i : ℕ) (p : Plan) → suc i ≤ length ps → p ≡ get_or ps i p → weight (way_of p) ≤ weight_of_parts ps
part_weight [] i p h e = absurd (omega (arith, h))
part_weight (q ∷ ps) zero p h e = omega (arith, first_weight (way_of q) (map way_of ps), ap (λ r. weight (way_of r)) e)
part_weight (q ∷ ps) (suc i) p h e = omega (arith, first_weight (way_of q) (map way_of ps), part_weight ps i p (omega (arith, h)) e)

-- ---- from a plan to its parts, and from these to one of them

pub falls_meet : (w : Way) (ws : List Way) (n : ℕ) → w ≡ meet_of (ways_in ws) → 2 * weight w ≡ n → 2 * weights (ways_in ws) + 1 < n
falls_meet w ws n e at = omega (arith, ap weight e, meet_weight ws, at)

pub falls_join : (w : Way) (ws : List Way) (n : ℕ) → w ≡ join_of (ways_in ws) → 2 * weight w ≡ n → 2 * weights (ways_in ws) + 1 < n
falls_join w ws n e at = omega (arith, ap weight e, join_weight ws, at)

pub falls_part : (ps : List Plan) (i : ℕ) (p : Plan) (n : ℕ) → suc i ≤ length ps → p ≡ get_or ps i p → 2 * weight_of_parts ps + 1 ≡ n → 2 * weight (way_of p) < n
falls_part ps i p n h e at = omega (arith, part_weight ps i p h e, at)
