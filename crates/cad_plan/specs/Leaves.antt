-- The full plan of a form, and its leaves (own profile).
use Rattle.std.specs.Prelude.{◌≡◌, ℕ, true, false, List, [], ◌∷◌, ◌++◌, length, map, take}
use Rattle.cad_grid.specs.Blocks.{block_around}
use Rattle.cad_shape.specs.Shapes.{shape_corners}
use Rattle.cad_lookup.specs.Ways.{Way, Ways, all_features, no_feature, in_range, near_block, meet_of, join_of, none, more, ways_in, range_way, Counts, cost}
use Rattle.cql_rewrite.specs.declared.form.Normal.{Normal}
use Rattle.cql_rewrite.specs.declared.form.Normal.TheOpen.{Normal-F}
use Rattle.cql_rewrite.specs.declared.form.Normal.TheFolds.{fold-Normal}

-- a form, with the full way of each part in the part's place
abbrev pub full_step : Normal-F Way → Way
full_step (Normal-F.Constant true) = all_features
full_step (Normal-F.Constant false) = no_feature
full_step (Normal-F.Range r) = range_way r
full_step (Normal-F.Like pattern r) = range_way r
full_step (Normal-F.Atom f side) = all_features
full_step (Normal-F.Owned f side) = all_features
full_step (Normal-F.Folded text) = all_features
full_step (Normal-F.LikeFolded p) = all_features
full_step (Normal-F.Near f property shape) = near_block property (block_around (shape_corners shape.now))
full_step (Normal-F.And parts) = meet_of (ways_in parts.items)
full_step (Normal-F.Or parts) = join_of (ways_in parts.items)

-- the way that leaves nothing of the form out
abbrev pub full_way : Normal → Way
full_way = fold-Normal Way full_step

unfoldable mutual
  -- the parts of a way that have no parts, in order
  pub leaves : Way → List Way
  leaves all_features = all_features ∷ []
  leaves no_feature = no_feature ∷ []
  leaves (in_range property low high) = in_range property low high ∷ []
  leaves (near_block property block) = near_block property block ∷ []
  leaves (meet_of ways) = leaves_in ways
  leaves (join_of ways) = leaves_in ways

  pub leaves_in : Ways → List Way
  leaves_in none = []
  leaves_in (more w ws) = leaves w ++ leaves_in ws

-- what each leaf costs
abbrev pub leaf_counts : Counts → Way → List ℕ
leaf_counts counts w = map (cost counts) (leaves w)

-- these are the first of them
abbrev pub AreFirstOf : List ℕ → List ℕ → Type 0
AreFirstOf counts all = counts ≡ take (length counts) all
