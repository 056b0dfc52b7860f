-- When the periods of features begin and end (own profile).
use Rattle.std.specs.Prelude.{ℕ, ◌≤◌, Bool, false, ◌&&◌, List, filter, map, nat_lt, slice_get, Option, Some, None}
use Rattle.std.specs.List.{All}
use Rattle.std.specs.List.Sorted.{IsPermutation, IsNonDecreasing}
use Rattle.cad_feature.specs.Features.{Item}
use Rattle.cad_index.specs.Moments.{is_shown_at}
use Rattle.cad_index.specs.declared.periods.Periods.{Periods}

-- its period contains a revision
abbrev pub is_ever_shown : Item → Bool
is_ever_shown x = nat_lt x.period.start x.period.end

-- and there is a first revision after it: there are fewer than 2^32 - 1
abbrev pub is_ended : Item → Bool
is_ended x = is_ever_shown x && nat_lt x.period.end 4294967295

abbrev pub starts_of : List Item → List ℕ
starts_of xs = map (λ x. x.period.start) (filter is_ever_shown xs)

abbrev pub ends_of : List Item → List ℕ
ends_of xs = map (λ x. x.period.end) (filter is_ended xs)

-- the same times in ascending order
pub record AreInOrder (times sorted : List ℕ) : Type 0 where
  pub same : IsPermutation times sorted
  pub ascend : IsNonDecreasing sorted

-- the periods of these rows begin and end then
pub record AreTimesOf (periods : Periods) (xs : List Item) : Type 0 where
  pub starts : AreInOrder (starts_of xs) periods.starts.items
  pub ends : AreInOrder (ends_of xs) periods.ends.items
  pub bounded : All (λ x. x.period.end ≤ 4294967295) xs

-- those of some rows do
abbrev pub AreTimes : Periods → Type 0
AreTimes periods = (xs : List Item) × AreTimesOf periods xs

-- there is a row, with its values at the revision
abbrev pub is_row_at : ℕ → Option Item → Bool
is_row_at revision None = false
is_row_at revision (Some x) = is_shown_at revision x

-- the list has one at the position
abbrev pub is_shown_in : List Item → ℕ → ℕ → Bool
is_shown_in xs revision position = is_row_at revision (slice_get xs position)
