-- The count of a leaf, where the counts of all leaves stand.
use Rattle.std.proofs.Common.{◌≡◌, ◌∙◌, ap, subst, ℕ, ◌+◌, ◌<◌, List, [], ◌∷◌, ◌++◌, length, get_or, arith, length-append}
use Rattle.cad_lookup.specs.Ways.{Way, Counts, cost}
use Rattle.cad_plan.specs.Leaves.{leaf_counts}
use Rattle.cad_plan.specs.inner.Pruned.{StandAt}
use Rattle.cad_plan.proofs.WindowLemmas.{one_there, one_within}

module _ (counts : Counts) (w leaf : Way) (all : List ℕ) (at : ℕ) (same : w ≡ leaf) (one : leaf_counts counts leaf ≡ cost counts leaf ∷ []) (is : StandAt (leaf_counts counts w) all at) where
  stand_one : StandAt (cost counts leaf ∷ []) all at
  stand_one = subst (λ xs. StandAt xs all at) (ap (leaf_counts counts) same ∙ one) is

  pub leaf_within : at < length all
  leaf_within = one_within (cost counts leaf) all at stand_one

  pub leaf_cost : (y : ℕ) → get_or all at y ≡ y → y ≡ cost counts leaf
  leaf_cost = one_there (cost counts leaf) all at stand_one

  pub leaf_passed : (after : ℕ) → after ≡ at + 1 → after ≡ at + length (leaf_counts counts w)
  leaf_passed after e = omega (arith, e, ap length (ap (leaf_counts counts) same ∙ one))

-- what is left to pass, after one part
pub part_passed : (begun at after whole : ℕ) (left part rest : List ℕ) → left ≡ part ++ rest → after ≡ at + length part → at + length left ≡ begun + whole → after + length rest ≡ begun + whole
part_passed begun at after whole left part rest e f h = omega (arith, ap length e, length-append part rest, f, h)
