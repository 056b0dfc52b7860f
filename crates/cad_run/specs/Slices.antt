-- The part of a list of features that a page shows (OGC 17-069r4, 7.15.2: parameter limit; after: own profile).
use Rattle.std.specs.Prelude.{ℕ, ℤ, nat_lt, Bool, true, List, length, filter, take, map, Option, Some, None}
use Rattle.std.proofs.Common.{Bor}
use Rattle.cad_versions.specs.declared.object_id.ObjectId.{ObjectId}
use Rattle.cad_versions.specs.Identifiers.{identifier as identifier_with}
use Rattle.cad_feature.specs.Features.{Item}
use Rattle.cad_layer.specs.Identifiers.{comes_after}
use Rattle.cad_run.specs.declared.rows.Page.{Page}

-- from an object and the number of its version
abbrev pub identifier : ObjectId × ℕ → ℤ × ℤ
identifier i = identifier_with i.0 i.1

-- those after the named one, or all
abbrev pub is_later : Option (ℤ × ℤ) → Item → Bool
is_later None x = true
is_later (Some named) x = comes_after named x

abbrev pub later : Option (ℤ × ℤ) → List Item → List Item
later last xs = filter (is_later last) xs

-- the first of those, as many as are wanted
abbrev pub slice : Option (ℤ × ℤ) → ℕ → List Item → List Item
slice last limit xs = take limit (later last xs)

-- at least one is left after them
abbrev pub is_more : Option (ℤ × ℤ) → ℕ → List Item → Bool
is_more last limit xs = nat_lt limit (length (later last xs))

abbrev pub lent : List (Bor Item) → List Item
lent rows = map (λ x. x.now) rows

-- the features that a page lends
abbrev pub rows_of : Page → List Item
rows_of page = lent page.rows.items
