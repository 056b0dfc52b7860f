-- The identifiers of versions and of their features, their order and their text (ISO 19152:2012, VersionedObject; OGC 17-069r4, 7.16.2: the id of a feature; own profile).
use Rattle.std.specs.Prelude.{◌≡◌, ℕ, ◌≤◌, ℤ, pos, List, ◌++◌, codes, decimal}
use Rattle.std.specs.declared.cmp.Ordering.{Ordering}
use Rattle.std.specs.Ordering.{int_cmp, ordering_then}
use Rattle.cad_versions.specs.declared.identifier.Identifier.{Identifier}
use Rattle.cad_versions.specs.declared.object_id.ObjectId.{ObjectId}
use Rattle.cad_versions.specs.Limits.{most_number}
use Rattle.cad_versions.specs.Objects.{IsObjectNumber, object_number}
use Rattle.cad_versions.specs.VersionedObject.{VersionedObject}

-- ---- their order

-- of the version of the object with that number
abbrev pub identifier : ObjectId → ℕ → ℤ × ℤ
identifier object number = (pos (object_number object), pos number)

abbrev pub identifier_of : VersionedObject → ℤ × ℤ
identifier_of v = identifier v.object v.number

-- by object, and then by version
abbrev pub identifier_cmp : ℤ × ℤ → ℤ × ℤ → Ordering
identifier_cmp a b = ordering_then (int_cmp a.0 b.0) (int_cmp a.1 b.1)

abbrev pub by_identifier : VersionedObject → VersionedObject → Ordering
by_identifier a b = identifier_cmp (identifier_of a) (identifier_of b)

-- ---- their text

-- the number of an object, and that of one of its versions
abbrev pub Numbers : Type 0
Numbers = ℕ × ℕ

abbrev pub numbers_of : Identifier → Numbers
numbers_of identifier = (object_number identifier.object, identifier.number)

-- the versions of an object have the numbers from 1 to 2^31 - 1
abbrev pub IsVersionNumber : ℕ → Type 0
IsVersionNumber number = (1 ≤ number) × (number ≤ most_number)

-- object, point, number
abbrev pub identifier_text : Numbers → List ℕ
identifier_text numbers = decimal numbers.0 ++ (codes "." ++ decimal numbers.1)

-- the text is the identifier of that version of that object
pub record Identifies (text : List ℕ) (numbers : Numbers) : Type 0 where
  pub object : IsObjectNumber numbers.0
  pub number : IsVersionNumber numbers.1
  pub spelt : text ≡ identifier_text numbers
