-- Which leaves are counted in a piece.
use Rattle.std.specs.Prelude.{◌≡◌, ℕ, ◌-◌, List, [], ◌∷◌, ◌++◌, length, take, drop}
use Rattle.cad_lookup.specs.Ways.{Way, Counts}
use Rattle.cad_plan.specs.Leaves.{leaf_counts}
use Rattle.cad_plan.specs.declared.counting.Window.{Window}

-- what the leaves of some ways cost, one way after the other
abbrev pub counts_of_leaves : Counts → List Way → List ℕ
counts_of_leaves counts [] = []
counts_of_leaves counts (w ∷ ws) = leaf_counts counts w ++ counts_of_leaves counts ws

-- those of the costs that are in the window were added to the counts, and the window has passed them all
pub record AreCounted (costs old : List ℕ) (before : Window) (new : List ℕ) (after : Window) : Type 0 where
  pub counts : new ≡ old ++ take before.room (drop before.skip costs)
  pub skip : after.skip ≡ before.skip - length costs
  pub room : after.room ≡ before.room - length (drop before.skip costs)
