-- The positions of the features that have a value in a range.
use Rattle.std.specs.Prelude.{ℕ, List, length, map, get_or, filter}
use Rattle.std.specs.List.{range_with_len}
use Rattle.cad_feature.specs.Features.{Item, datum_at}
use Rattle.cad_feature.specs.Limits.{Limit}
use Rattle.cad_feature.specs.Values.{Datum, null}
use Rattle.cad_range.specs.Ranges.{lies_between}

abbrev pub value_at : ℕ → Item → Datum
value_at place x = datum_at x place

-- the values of the property at that place, by position
abbrev pub column : ℕ → List Item → List Datum
column place xs = map (value_at place) xs

-- the positions, in ascending order
unfoldable pub range_positions : List Datum → Limit → Limit → List ℕ
range_positions values low high = filter (λ p. lies_between low high (get_or values p null)) (range_with_len 0 (length values))
