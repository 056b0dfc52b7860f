-- The ways to look for the features that meet a normal form, and the choice among them (own profile).
use Rattle.std.specs.Prelude.{◌≡◌, ◌<◌, ◌≤◌, Bool, true, false, if◌then◌else◌, nat_lt, List, [], ◌∷◌, ◌++◌, map, filter}
use Rattle.std.specs.List.{All}
use Rattle.cad_grid.specs.Blocks.{block_around}
use Rattle.cad_shape.specs.Shapes.{shape_corners}
use Rattle.cad_lookup.specs.Ways.{Way, all_features, no_feature, in_range, near_block, meet_of, join_of, ways_in, range_way, Counts, cost}
use Rattle.cql_rewrite.specs.declared.form.Normal.{Normal}
use Rattle.cql_rewrite.specs.declared.form.Normal.TheOpen.{Normal-F}
use Rattle.cql_rewrite.specs.declared.form.Normal.TheFolds.{fold-Normal}

-- ---- the choice

-- the cheaper of two ways; if they cost the same, the first
abbrev pub cheaper : Counts → Way → Way → Way
cheaper counts w v = if nat_lt (cost counts v) (cost counts w) then v else w

-- the first of least cost, of a way and of those after it
abbrev pub first_least : Counts → Way → List Way → Way
first_least counts w [] = w
first_least counts w (v ∷ vs) = first_least counts (cheaper counts w v) vs

-- the first of least cost; without ways, all
abbrev pub chosen : Counts → List Way → Way
chosen counts [] = all_features
chosen counts (w ∷ ws) = first_least counts w ws

-- what a choice is, in the subject's words: one of these ways, which costs less than each that comes before it, and no more than any that
-- comes behind it
pub record IsFirstOfLeast (counts : Counts) (w : Way) (ws : List Way) : Type 0 where
  pub before : List Way
  pub behind : List Way
  pub stands : ws ≡ before ++ w ∷ behind
  pub less : All (λ v. cost counts w < cost counts v) before
  pub no_more : All (λ v. cost counts w ≤ cost counts v) behind

-- ---- the menu

-- other than all
abbrev pub is_narrow : Way → Bool
is_narrow all_features = false
is_narrow no_feature = true
is_narrow (in_range property low high) = true
is_narrow (near_block property block) = true
is_narrow (meet_of ways) = true
is_narrow (join_of ways) = true

-- the meet of two or more
abbrev pub meets_of : List Way → List Way
meets_of (v ∷ w ∷ ws) = meet_of (ways_in (v ∷ w ∷ ws)) ∷ []
meets_of ws = []

-- the menu of an AND, by the choice of each part: all, the meet of those that are other than all, each of them
abbrev pub and_menu : List Way → List Way
and_menu choices = all_features ∷ (meets_of (filter is_narrow choices) ++ choices)

-- the menu of an OR: all, and the join of each part's choice
abbrev pub or_menu : List Way → List Way
or_menu choices = all_features ∷ join_of (ways_in choices) ∷ []

-- a form, with the menu of each part in the part's place
abbrev pub menu_step : Counts → Normal-F (List Way) → List Way
menu_step counts (Normal-F.Constant true) = all_features ∷ []
menu_step counts (Normal-F.Constant false) = all_features ∷ no_feature ∷ []
menu_step counts (Normal-F.Range r) = all_features ∷ range_way r ∷ []
menu_step counts (Normal-F.Like pattern r) = all_features ∷ range_way r ∷ []
menu_step counts (Normal-F.Atom f side) = all_features ∷ []
menu_step counts (Normal-F.Owned f side) = all_features ∷ []
menu_step counts (Normal-F.Folded text) = all_features ∷ []
menu_step counts (Normal-F.LikeFolded p) = all_features ∷ []
menu_step counts (Normal-F.Near f property shape) = all_features ∷ near_block property (block_around (shape_corners shape.now)) ∷ []
menu_step counts (Normal-F.And parts) = and_menu (map (chosen counts) parts.items)
menu_step counts (Normal-F.Or parts) = or_menu (map (chosen counts) parts.items)

abbrev pub menu : Counts → Normal → List Way
menu counts = fold-Normal (List Way) (menu_step counts)

-- the first of least cost of the menu
abbrev pub choice : Counts → Normal → Way
choice counts n = chosen counts (menu counts n)
