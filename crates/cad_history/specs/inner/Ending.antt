-- Rows whose period a revision ends, and the lists of earlier rows that take them (own profile).
use Rattle.std.specs.Prelude.{ℕ, Bool, true, false, not, List, [], ◌∷◌, filter, if◌then◌else◌, Option, Some, None}
use Rattle.std.specs.List.{list_any}
use Rattle.cad_schema.specs.declared.collection.Collection.{Collection}
use Rattle.cad_feature.specs.Features.{Item}
use Rattle.cad_feature.specs.declared.period.Period.{Period}
use Rattle.cad_index.specs.Layers.{LayerFeatures}
use Rattle.cad_layer.specs.Walks.{all_in}
use Rattle.cad_history.specs.Rows.{is_version}

-- the row with another period
abbrev pub with_period : Period → Item → Item
with_period period x = record { object = x.object; number = x.number; values = x.values; period = period }

-- its period ends with the revision
abbrev pub ended : ℕ → Item → Item
ended revision x = with_period (record { start = x.period.start; end = revision }) x

-- its period begins with the revision
abbrev pub begun : ℕ → Item → Item
begun revision x = with_period (record { start = revision; end = 4294967295 }) x

-- the list has a row of the same version
abbrev pub has_version : Item → List Item → Bool
has_version x ys = list_any (λ y. is_version y x) ys

abbrev pub listed : Option Item → List Item
listed None = []
listed (Some x) = x ∷ []

-- the rows that one of these features replaces
abbrev pub replaced_by : List Item → List Item → List Item
replaced_by touched newest = filter (λ x. has_version x touched) newest

-- none of the lists has a row of the version
abbrev pub is_in_none : List LayerFeatures → Item → Bool
is_in_none [] x = true
is_in_none (layer ∷ layers) x = if has_version x layer.features then false else is_in_none layers x

-- the rows of the versions that none of the lists has, and the others
abbrev pub absent_in : List LayerFeatures → List Item → List Item
absent_in layers xs = filter (is_in_none layers) xs

abbrev pub present_in : List LayerFeatures → List Item → List Item
present_in layers xs = filter (λ x. not (is_in_none layers x)) xs

-- one list more, if there are rows for it
abbrev pub one_more : Collection → List Item → List LayerFeatures
one_more collection [] = []
one_more collection (x ∷ xs) = (record { collection = collection; features = x ∷ xs }) ∷ []

-- the lists with these rows: each goes to the first list from which on none has a row of its version
abbrev pub with_ended : Collection → List LayerFeatures → List Item → List LayerFeatures
with_ended collection [] xs = one_more collection xs
with_ended collection (layer ∷ layers) xs =
    (record { collection = layer.collection; features = all_in layer.features (absent_in (layer ∷ layers) xs) }) ∷ with_ended collection layers (present_in (layer ∷ layers) xs)
