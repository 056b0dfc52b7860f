-- The features that no change replaces.
use Rattle.std.specs.Prelude.{Bool, false, not, ◌||◌, List, [], ◌∷◌, filter}
use Rattle.std.specs.Ordering.{is_eq}
use Rattle.cad_feature.specs.Features.{Item, by_identifier}

-- one of the changes replaces it
abbrev pub is_replaced : List Item → Item → Bool
is_replaced [] x = false
is_replaced (c ∷ cs) x = is_eq (by_identifier c x) || is_replaced cs x

-- no change replaces it
abbrev pub stands : List Item → Item → Bool
stands cs x = not (is_replaced cs x)

abbrev pub standing : List Item → List Item → List Item
standing cs xs = filter (stands cs) xs
