-- Features by their identifiers (OGC 17-069r4, 7.16: feature; the identifier and after: own profile).
use Rattle.std.specs.Prelude.{◌≡◌, ℤ, pos, Bool, List, Contains, filter, Option, Some, None}
use Rattle.std.specs.Ordering.{is_gt, int_eq}
use Rattle.std.specs.List.{All}
use Rattle.std.specs.declared.cmp.Ordering.{Ordering}
use Rattle.cad_versions.specs.declared.object_id.ObjectId.{ObjectId}
use Rattle.cad_versions.specs.Objects.{object_number}
use Rattle.cad_versions.specs.Identifiers.{identifier_cmp}
pub use Rattle.cad_versions.specs.Identifiers.{identifier}
use Rattle.cad_feature.specs.Features.{Item, identifier_of}

-- how the feature compares with the one that is identified
abbrev pub compared : ℤ × ℤ → Item → Ordering
compared wanted x = identifier_cmp (identifier_of x) wanted

-- a feature of the list with that identifier, or nothing if the list has none
abbrev pub IsTheOne : ℤ × ℤ → List Item → Option Item → Type 0
IsTheOne wanted xs None = All (λ x. ¬ (identifier_of x ≡ wanted)) xs
IsTheOne wanted xs (Some x) = Contains xs x × (identifier_of x ≡ wanted)

-- by the two numbers, the object's and then the version's
abbrev pub comes_after : ℤ × ℤ → Item → Bool
comes_after last x = is_gt (compared last x)

abbrev pub items_after : ℤ × ℤ → List Item → List Item
items_after last xs = filter (comes_after last) xs

-- it is a version of the object
abbrev pub is_item_of : ObjectId → Item → Bool
is_item_of object x = int_eq (pos (object_number x.object)) (pos (object_number object))

abbrev pub of_object : ObjectId → List Item → List Item
of_object object xs = filter (is_item_of object) xs
