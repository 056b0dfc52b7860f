-- Plans without their places in memory: their candidates, and what it costs to look at these (own profile).
use Rattle.std.specs.Prelude.{ℕ, suc, ◌+◌, min, Bool, true, false, ◌&&◌, ◌||◌, if◌then◌else◌, List, [], ◌∷◌, length}
use Rattle.cad_grid.specs.Blocks.{Block, block_of}
use Rattle.cad_grid.specs.Near.{is_near}
use Rattle.cad_feature.specs.Features.{Item, datum_at}
use Rattle.cad_feature.specs.Limits.{Limit, limit_of}
use Rattle.cad_feature.specs.declared.range.Range.{Range}
use Rattle.cad_range.specs.Ranges.{lies_between}
use Rattle.cad_lookup.specs.declared.plan.Plan.{Plan}
use Rattle.cad_lookup.specs.declared.plan.Plan.TheOpen.{Plan-F}
use Rattle.cad_lookup.specs.declared.plan.Plan.TheFolds.{fold-Plan}

mutual
  pub data Way : Type 0 where
    all_features : Way
    no_feature : Way
    -- those with a value of the property between the ends
    in_range : (property : ℕ) → (low : Limit) → (high : Limit) → Way
    -- those whose shape of the property is near the cells
    near_block : (property : ℕ) → (block : Block) → Way
    meet_of : Ways → Way
    join_of : Ways → Way

  pub data Ways : Type 0 where
    none : Ways
    more : Way → Ways → Ways

abbrev pub ways_in : List Way → Ways
ways_in [] = none
ways_in (w ∷ ws) = more w (ways_in ws)

abbrev pub range_way : Range → Way
range_way r = in_range r.property (limit_of r.low) (limit_of r.high)

-- a plan, with each part's way in the part's place
abbrev pub way_step : Plan-F Way → Way
way_step Plan-F.All = all_features
way_step Plan-F.Empty = no_feature
way_step (Plan-F.Range r) = range_way r
way_step (Plan-F.Near property bounds) = near_block property (block_of bounds)
way_step (Plan-F.Meet plans) = meet_of (ways_in plans.items)
way_step (Plan-F.Join plans) = join_of (ways_in plans.items)

abbrev pub way_of : Plan → Way
way_of = fold-Plan Way way_step

-- ---- candidates

unfoldable mutual
  -- the feature is a candidate
  pub is_found : Way → Item → Bool
  is_found all_features x = true
  is_found no_feature x = false
  is_found (in_range property low high) x = lies_between low high (datum_at x property)
  is_found (near_block property block) x = is_near property block x
  is_found (meet_of ways) x = found_by_all ways x
  is_found (join_of ways) x = found_by_some ways x

  pub found_by_all : Ways → Item → Bool
  found_by_all none x = true
  found_by_all (more w ws) x = is_found w x && found_by_all ws x

  pub found_by_some : Ways → Item → Bool
  found_by_some none x = false
  found_by_some (more w ws) x = is_found w x || found_by_some ws x

-- ---- costs

-- how many pass a test
abbrev pub how_many : {X : Type 0} → (X → Bool) → List X → ℕ
how_many test [] = 0
how_many test (x ∷ xs) = if test x then (suc (how_many test xs)) else (how_many test xs)

-- all of them together
abbrev pub total : List ℕ → ℕ
total [] = 0
total (n ∷ ns) = n + total ns

-- the least of a bound and some numbers
abbrev pub min_of : ℕ → List ℕ → ℕ
min_of n [] = n
min_of n (c ∷ cs) = min c (min_of n cs)

-- the least of some numbers; without numbers, what is given
abbrev pub least_or : ℕ → List ℕ → ℕ
least_or given [] = given
least_or given (c ∷ cs) = min_of c cs

-- the features, counted
pub record Counts : Type 0 where
  -- all of them
  pub every : ℕ
  -- those with a value of the property between the ends
  pub between : ℕ → Limit → Limit → ℕ
  -- those whose shape of the property is near the cells
  pub near : ℕ → Block → ℕ

abbrev pub counts_of : List Item → Counts
counts_of xs = record {
  every = length xs;
  between = λ property low high. how_many (λ x. lies_between low high (datum_at x property)) xs;
  near = λ property block. how_many (is_near property block) xs;
}

-- no cost is above this
abbrev pub most : ℕ
most = 18446744073709551615

unfoldable mutual
  -- what it costs: of all and of none, of a range and of a block how many features they are; of a meet the least of its members', or that of all; of a join the sum
  pub cost : Counts → Way → ℕ
  cost counts all_features = counts.every
  cost counts no_feature = 0
  cost counts (in_range property low high) = counts.between property low high
  cost counts (near_block property block) = counts.near property block
  cost counts (meet_of ways) = least_or counts.every (costs counts ways)
  cost counts (join_of ways) = min most (total (costs counts ways))

  pub costs : Counts → Ways → List ℕ
  costs counts none = []
  costs counts (more w ws) = cost counts w ∷ costs counts ws
