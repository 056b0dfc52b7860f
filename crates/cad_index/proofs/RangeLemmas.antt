-- The features at the positions of a range, at a revision.
use Rattle.std.proofs.Common.{◌≡◌, ◌∙◌, ℕ, List, filter, length, ap}
use Rattle.std.specs.List.Sorted.{IsPermutation}
use Rattle.std.proofs.lemmas.Option.{slice_get-get_or}
use Rattle.cad_feature.specs.Features.{Item}
use Rattle.cad_feature.specs.Limits.{limit_of}
use Rattle.cad_feature.specs.Values.{null}
use Rattle.cad_feature.specs.declared.range.Range.{Range}
use Rattle.cad_range.specs.Ranges.{lies_between, lies_in}
use Rattle.cad_ordered.specs.Ranged.{column, range_positions, value_at}
use Rattle.cad_index.specs.Moments.{is_shown_at, rows_at}
use Rattle.cad_index.specs.inner.Periods.{is_row_at, is_shown_in}
use Rattle.cad_index.proofs.Counted.{counted_among, passing_permuted}

pub range_counted : (range : Range) (revision : ℕ) (xs : List Item) (found places : List ℕ) → found ≡ range_positions (column range.property xs) (limit_of range.low) (limit_of range.high) → IsPermutation found places
    → length (filter (is_shown_in xs revision) places) ≡ length (filter (λ x. lies_in x range) (rows_at revision xs))
unfolding range_positions
range_counted range revision xs found places is moved =
    passing_permuted (is_shown_in xs revision) found places moved
    ∙ ap (λ l. length (filter (is_shown_in xs revision) l)) is
    ∙ counted_among (lies_between (limit_of range.low) (limit_of range.high)) (value_at range.property) null (is_shown_in xs revision) (is_shown_at revision) xs (λ k d h. ap (is_row_at revision) (slice_get-get_or xs k d h))
