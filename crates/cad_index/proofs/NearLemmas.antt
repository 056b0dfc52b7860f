-- The features at the positions near a box, at a revision.
use Rattle.std.proofs.Common.{◌≡◌, ◌∙◌, ℕ, List, None, filter, length, ap}
use Rattle.std.proofs.lemmas.Option.{slice_get-get_or}
use Rattle.cad_feature.specs.Features.{Item}
use Rattle.cad_grid.specs.Blocks.{Block}
use Rattle.cad_grid.specs.Near.{block_at_place, is_candidate, is_near}
use Rattle.cad_grid.specs.Grids.{blocks_at, near_positions}
use Rattle.cad_index.specs.Moments.{is_shown_at, rows_at}
use Rattle.cad_index.specs.inner.Periods.{is_row_at, is_shown_in}
use Rattle.cad_index.proofs.Counted.{counted_among}

pub near_counted : (place : ℕ) (asked : Block) (revision : ℕ) (xs : List Item) (found : List ℕ) → found ≡ near_positions (blocks_at place xs) asked
    → length (filter (is_shown_in xs revision) found) ≡ length (filter (is_near place asked) (rows_at revision xs))
unfolding near_positions
near_counted place asked revision xs found is =
    ap (λ l. length (filter (is_shown_in xs revision) l)) is
    ∙ counted_among (is_candidate asked) (block_at_place place) None (is_shown_in xs revision) (is_shown_at revision) xs (λ k d h. ap (is_row_at revision) (slice_get-get_or xs k d h))
