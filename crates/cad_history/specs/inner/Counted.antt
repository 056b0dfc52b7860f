-- Which of the features at a revision are counted (own profile).
use Rattle.std.specs.Prelude.{Bool, true}
use Rattle.cad_feature.specs.Features.{Item}
use Rattle.cad_grid.specs.Blocks.{block_of}
use Rattle.cad_grid.specs.Near.{is_near}
use Rattle.cad_range.specs.Ranges.{lies_in}
use Rattle.cad_history.specs.declared.counting.Counted.{Counted}
use Rattle.cad_history.specs.declared.counting.Counted.TheVariants.{Every, InRange, Near}

-- all, or those with a value in the range, or those near the box
abbrev pub is_counted : Counted → Item → Bool
is_counted Every x = true
is_counted (InRange range) x = lies_in x range.now
is_counted (Near property bounds) x = is_near property (block_of bounds) x
