-- What is read of a row (own profile).
use Rattle.std.specs.Prelude.{◌≡◌, ℕ, ℤ, pos, List, Option, Result, MatchResult}
use Rattle.std.specs.List.{AllZip}
use Rattle.std.specs.declared.cmp.Ordering.{Ordering}
use Rattle.sqlite_value.specs.Order.{Row, column}
use Rattle.cad_versions.specs.Entries.{Entry}
use Rattle.cad_versions.specs.Identifiers.{identifier_of as identifier_of_version, identifier_cmp}
use Rattle.cad_versions.specs.Objects.{object_number}
use Rattle.cad_versions.specs.declared.fault.RegisterFault.{RegisterFault}
use Rattle.cad_versions.specs.declared.fault.RegisterFault.TheVariants as fault
use Rattle.cad_register.specs.declared.found.FoundRow.{FoundRow}
use Rattle.cad_register.specs.declared.found.FoundRow.TheVariants.{Version, Damaged}
use Rattle.cad_register.specs.declared.stored_version.StoredVersion.{StoredVersion}
use Rattle.cad_register.specs.declared.place.Place.{Place}
use Rattle.cad_register.specs.Damage.{number_in, identifier_in, damage_of, IsNext}
use Rattle.cad_register.specs.StoredVersions.{IsRowOf, entry_of}

-- it is the version that the row represents, or has the row's object and number, if it represents no version
abbrev pub IsReadOf : Row → FoundRow → Type 0
IsReadOf row (Version kept) = IsRowOf row (entry_of kept)
IsReadOf row (Damaged object number) = (identifier_in row ≡ (object, number)) × ((e : Entry) → ¬ IsRowOf row e)

abbrev pub identifier_of : FoundRow → ℤ × ℤ
identifier_of (Version kept) = identifier_of_version kept.version
identifier_of (Damaged object number) = (object, number)

-- what is read of a row that represents no version
abbrev pub damaged_row : Row → FoundRow
damaged_row row = Damaged (number_in (column row 0)) (number_in (column row 1))

-- the fault that names the row
abbrev pub damage_named : FoundRow → RegisterFault
damage_named (Version kept) = fault.Damaged (pos (object_number kept.version.object)) (pos kept.version.number)
damage_named (Damaged object number) = fault.Damaged object number

-- by object, and then by number, as they are stored
abbrev pub by_identifier : FoundRow → FoundRow → Ordering
by_identifier a b = identifier_cmp (identifier_of a) (identifier_of b)

-- each of these was read of the row in its place
abbrev pub AreReadOf : List Row → List FoundRow → Type 0
AreReadOf = AllZip IsReadOf

-- the row is valid there, or is named
abbrev pub IsJudged : ℕ → Option Place → ℕ → Row → Result StoredVersion RegisterFault → Type 0
IsJudged newest before count row result =
    MatchResult result (λ kept. IsNext newest before count row (entry_of kept)) (λ fault. (fault ≡ damage_of row) × ((e : Entry) → ¬ IsNext newest before count row e))
