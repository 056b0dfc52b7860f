-- How deep a tree of sources is.
use Rattle.std.specs.Prelude.{ℕ, ◌+◌, max}
use Rattle.cad_positions.specs.declared.source.Source.{Source}
use Rattle.cad_positions.specs.declared.source.Source.TheOpen.{Source-F, Tested-F, Met-F, Joined-F}
use Rattle.cad_positions.specs.declared.source.Source.TheFolds.{fold-Source}
use Rattle.cad_positions.specs.declared.source.Tested.{Tested}
use Rattle.cad_positions.specs.declared.source.Met.{Met}
use Rattle.cad_positions.specs.declared.source.Joined.{Joined}

-- one more than what is inside
abbrev pub tested_height : Tested-F ℕ ℕ ℕ ℕ → ℕ
tested_height t = 1 + t.source.value

abbrev pub met_height : Met-F ℕ ℕ ℕ ℕ → ℕ
met_height m = 1 + max m.first.value m.second.value

abbrev pub joined_height : Joined-F ℕ ℕ ℕ ℕ → ℕ
joined_height j = 1 + max j.first.value j.second.value

-- a tree, with the depths of its parts in their places
abbrev pub height_step : Source-F ℕ ℕ ℕ ℕ → ℕ
height_step Source-F.Empty = 0
height_step (Source-F.Scan at end) = 0
height_step (Source-F.Listed listed) = 0
height_step (Source-F.Tested t) = t
height_step (Source-F.Met m) = m
height_step (Source-F.Joined j) = j

-- how many trees are nested in one another
abbrev pub height : Source → ℕ
height = fold-Source ℕ ℕ ℕ ℕ height_step joined_height met_height tested_height

-- the same of the parts of a tree
abbrev pub height_tested : Tested → ℕ
height_tested t = 1 + height t.source.value

abbrev pub height_met : Met → ℕ
height_met m = 1 + max (height m.first.value) (height m.second.value)

abbrev pub height_joined : Joined → ℕ
height_joined j = 1 + max (height j.first.value) (height j.second.value)
