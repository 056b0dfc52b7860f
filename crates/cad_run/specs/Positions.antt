-- Positions in a list of features, and the features at them.
use Rattle.std.specs.Prelude.{◌≡◌, ℕ, nat_le, Bool, false, List, [], ◌∷◌, slice_get, Option, Some, None}
use Rattle.cad_feature.specs.Features.{Item}

-- there is a feature, and it passes
abbrev pub holds_for : (Item → Bool) → Option Item → Bool
holds_for test None = false
holds_for test (Some x) = test x

-- the feature at the position passes; past the last feature, false
abbrev pub holds_at : (Item → Bool) → List Item → ℕ → Bool
holds_at test xs k = holds_for test (slice_get xs k)

-- the features from a position on pass, and no feature before it
abbrev pub PassFrom : (Item → Bool) → List Item → ℕ → Type 0
PassFrom test xs start = (k : ℕ) (x : Item) → slice_get xs k ≡ Some x → test x ≡ nat_le start k

abbrev pub found_then : Option Item → List Item → List Item
found_then None xs = xs
found_then (Some x) xs = x ∷ xs

-- the features at these positions
abbrev pub items_at : List Item → List ℕ → List Item
items_at xs [] = []
items_at xs (k ∷ ks) = found_then (slice_get xs k) (items_at xs ks)
