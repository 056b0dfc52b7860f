-- What is left of a full plan when the cheapest is chosen, and where counts are in a list.
use Rattle.std.specs.Prelude.{◌≡◌, ℕ, ◌+◌, List, [], ◌∷◌, ◌++◌, length, drop}
use Rattle.cad_lookup.specs.Ways.{Way, Ways, all_features, no_feature, in_range, near_block, meet_of, join_of, none, more, Counts}
use Rattle.cql_rewrite.specs.Menus.{chosen, and_menu, or_menu}

unfoldable mutual
  -- the cheapest of the ways that a form offers whose full way is this
  pub pruned : Counts → Way → Way
  pruned counts all_features = all_features
  pruned counts no_feature = chosen counts (all_features ∷ no_feature ∷ [])
  pruned counts (in_range property low high) = chosen counts (all_features ∷ in_range property low high ∷ [])
  pruned counts (near_block property block) = chosen counts (all_features ∷ near_block property block ∷ [])
  pruned counts (meet_of ways) = chosen counts (and_menu (pruned_in counts ways))
  pruned counts (join_of ways) = chosen counts (or_menu (pruned_in counts ways))

  pub pruned_in : Counts → Ways → List Way
  pruned_in counts none = []
  pruned_in counts (more w ws) = pruned counts w ∷ pruned_in counts ws

-- these are in the list, from this place on
abbrev pub StandAt : List ℕ → List ℕ → ℕ → Type 0
StandAt counts all at = drop at all ≡ counts ++ drop (at + length counts) all
