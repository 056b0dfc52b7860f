-- Which rows make a register (own profile).
use Rattle.std.specs.Prelude.{◌≡◌, ℕ, ◌+◌, ◌<◌, ◌≤◌, ℤ, pos, List, [], ◌∷◌, Option, Some, None, ◌⊎◌, Vec, Result, Ok, Err}
use Rattle.std.specs.List.Sorted.{IsPermutation, IsSorted}
use Rattle.std.specs.declared.cmp.Ordering.{Ordering}
use Rattle.sqlite_value.specs.declared.value.Value.{Value}
use Rattle.sqlite_value.specs.declared.value.Value.TheVariants.{Int}
use Rattle.sqlite_value.specs.Order.{Row, column}
use Rattle.cad_day.specs.declared.day.Day.{Day}
use Rattle.cad_versions.specs.Objects.{object_number}
use Rattle.cad_versions.specs.Class.{class_of}
use Rattle.cad_versions.specs.declared.fault.RegisterFault.{RegisterFault}
use Rattle.cad_versions.specs.declared.fault.RegisterFault.TheVariants as fault
use Rattle.cad_versions.specs.Identifiers.{identifier_cmp}
use Rattle.cad_versions.specs.VersionedObject.{VersionedObject}
use Rattle.cad_versions.specs.Entries.{Entry, seen_at}
use Rattle.sqlite.specs.State.{State, HasCleanDisk, Shown}
use Rattle.cad_tables.specs.Texts.{listing_text}
use Rattle.std.specs.Global.{Global}
use Rattle.cad_register.specs.declared.place.Place.{Place}
use Rattle.cad_register.specs.StoredVersions.{IsRowOf, AreRowsOf}

abbrev pub number_in : Value → ℤ
number_in (Int n) = n
number_in other = pos 0

-- the object and the number of a row, as they are stored
abbrev pub identifier_in : Row → ℤ × ℤ
identifier_in row = (number_in (column row 0), number_in (column row 1))

-- ---- one row after another

-- which version it is: the number of its object, its own, and its class
abbrev pub place_of : VersionedObject → Place
place_of v = record { object = object_number v.object; number = v.number; class = class_of v.body }

-- the next version of the same object, and of its class
pub record IsNextOf (before : Place) (v : VersionedObject) : Type 0 where
  pub object : object_number v.object ≡ before.object
  pub number : v.number ≡ before.number + 1
  pub class : class_of v.body ≡ before.class

-- the first version of a later object
pub record IsFirstBehind (before : Place) (v : VersionedObject) : Type 0 where
  pub object : before.object < object_number v.object
  pub number : v.number ≡ 1

-- the versions of each object are together, numbered 1, 2, and so on, all of one class
abbrev pub Follows : Option Place → VersionedObject → Type 0
Follows None v = v.number ≡ 1
Follows (Some before) v = IsNextOf before v ⊎ IsFirstBehind before v

-- ---- the revisions of a row

-- there is a last day if and only if the version was closed, at the revision that entered it or a later one, up to the newest
abbrev pub IsClosedBy : ℕ → ℕ → Option Day → Option ℕ → Type 0
IsClosedBy newest entered None None = Unit {0}
IsClosedBy newest entered (Some last) (Some closed) = (entered ≤ closed) × (closed ≤ newest)
IsClosedBy newest entered last closed = ⊥

-- entered and closed at revisions of a register with this newest revision
pub record HasRevisions (newest : ℕ) (e : Entry) : Type 0 where
  pub entered : (1 ≤ e.entered) × (e.entered ≤ newest)
  pub closed : IsClosedBy newest e.entered e.version.last e.closed

-- ---- the rows of a revision, in a register with a given newest revision

-- the entry is valid in the row after this many others, the last of which has this place
pub record KeepsRules (newest : ℕ) (before : Option Place) (count : ℕ) (e : Entry) : Type 0 where
  pub follows : Follows before e.version
  pub revisions : HasRevisions newest e
  pub room : count < 2147483647

-- the row represents the entry, which is valid there
pub record IsNext (newest : ℕ) (before : Option Place) (count : ℕ) (row : Row) (e : Entry) : Type 0 where
  pub shows : IsRowOf row e
  pub keeps : KeepsRules newest before count e

abbrev pub AreSound : ℕ → Option Place → ℕ → List Row → Type 0
AreSound newest before count [] = Unit {0}
AreSound newest before count (row ∷ rows) = (e : Entry) × IsNext newest before count row e × AreSound newest (Some (place_of e.version)) (count + 1) rows

-- this is the identifier of the first row that breaks a rule
abbrev pub IsFirstDamaged : ℕ → ℤ × ℤ → Option Place → ℕ → List Row → Type 0
IsFirstDamaged newest id before count [] = ⊥
IsFirstDamaged newest id before count (row ∷ rows) =
    ((identifier_in row ≡ id) × ((e : Entry) → IsNext newest before count row e → ⊥))
    ⊎ ((e : Entry) × IsNext newest before count row e × IsFirstDamaged newest id (Some (place_of e.version)) (count + 1) rows)

-- why the rows are not read: no memory, or the first of them that breaks a rule
abbrev pub IsCauseIn : ℕ → List Row → RegisterFault → Type 0
IsCauseIn newest rows (fault.Damaged object number) = IsFirstDamaged newest (object, number) None 0 rows
IsCauseIn newest rows fault.Memory = Unit {0}
IsCauseIn newest rows other = ⊥

abbrev pub damage_of : Row → RegisterFault
damage_of row = fault.Damaged (number_in (column row 0)) (number_in (column row 1))

-- by object, and then by number, as they are stored
abbrev pub by_stored_identifier : Row → Row → Ordering
by_stored_identifier a b = identifier_cmp (identifier_in a) (identifier_in b)

-- these rows are those that were shown, in the order of their identifiers
pub record AreInOrder (shown rows : List Row) : Type 0 where
  pub same : IsPermutation shown rows
  pub sorted : IsSorted by_stored_identifier rows

-- each version is what its row shows at the revision
abbrev pub AreSeenAt : ℕ → List Row → List VersionedObject → Type 0
AreSeenAt revision [] [] = Unit {0}
AreSeenAt revision (row ∷ rows) (v ∷ vs) = ((e : Entry) × IsRowOf row e × (v ≡ seen_at revision e)) × AreSeenAt revision rows vs
AreSeenAt revision rows vs = ⊥

-- of the rows that are shown, in any order, versions are listed by identifier and only from sound rows, or the first that breaks a rule is
-- named, or memory ran out
abbrev pub ListsRows : ℕ → ℕ → List Row → Result (Vec VersionedObject Global) RegisterFault → Type 0
ListsRows revision newest shown (Ok found) = (rows : List Row) × AreInOrder shown rows × AreSound newest None 0 rows × AreSeenAt revision rows found.items
ListsRows revision newest shown (Err (fault.Damaged object number)) = (rows : List Row) × AreInOrder shown rows × IsFirstDamaged newest (object, number) None 0 rows
ListsRows revision newest shown (Err fault.Memory) = Unit {0}
ListsRows revision newest shown (Err other) = ⊥

-- the database shows these rows for the revision, as the database itself reports
abbrev pub AreShown : State → State → ℕ → List Row → Type 0
AreShown old new revision rows = HasCleanDisk new → Shown listing_text (Int (pos revision) ∷ []) old new rows

-- no matter what the disk returns, versions are listed only from sound rows, and the damaged row is the first that breaks a rule, of the
-- rows that the database shows for the revision, by object and number, in a register with this newest revision
abbrev pub ReadsRows : State → State → ℕ → ℕ → Result (Vec VersionedObject Global) RegisterFault → Type 0
ReadsRows old new revision newest (Ok found) =
    (shown : List Row) × (rows : List Row) × AreShown old new revision shown × AreInOrder shown rows × AreSound newest None 0 rows × AreSeenAt revision rows found.items
ReadsRows old new revision newest (Err (fault.Damaged object number)) =
    (shown : List Row) × (rows : List Row) × AreShown old new revision shown × AreInOrder shown rows × IsFirstDamaged newest (object, number) None 0 rows
ReadsRows old new revision newest (Err other) = Unit {0}

-- ---- all rows, in a register with a given newest revision

-- stored versions are listed by identifier and only from sound rows; they are not listed for a cause for which the newest revision is not
abbrev pub ListsStored : ℕ → List Row → Result (Vec Entry Global) RegisterFault → Type 0
ListsStored newest shown (Ok found) = (rows : List Row) × AreInOrder shown rows × AreSound newest None 0 rows × AreRowsOf rows found.items
ListsStored newest shown (Err cause) = ListsRows newest newest shown (Err cause)

-- the same, no matter what the disk returns, of the rows that the database shows for the newest revision
abbrev pub ReadsStored : State → State → ℕ → Result (Vec Entry Global) RegisterFault → Type 0
ReadsStored old new newest (Ok found) = (shown : List Row) × (rows : List Row) × AreShown old new newest shown × AreInOrder shown rows × AreSound newest None 0 rows × AreRowsOf rows found.items
ReadsStored old new newest (Err cause) = ReadsRows old new newest newest (Err cause)
