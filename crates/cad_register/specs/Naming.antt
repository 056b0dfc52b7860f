-- Which row is named as damaged (own profile).
use Rattle.std.specs.Prelude.{◌≡◌, ◌≢◌, ◌⊎◌, ◌-◌, ℕ, ℤ, pos, List, [], ◌∷◌, length, slice_get, Some, None}
use Rattle.sqlite_value.specs.declared.value.Value.TheVariants.{Null, Int}
use Rattle.sqlite_value.specs.Order.{Row, column}
use Rattle.sqlite_trees.specs.declared.store.Store.{Ghosts}
use Rattle.sqlite.specs.State.{HasCleanDisk, Shown}
use Rattle.sqlite.specs.Held.{Held, state}
use Rattle.cad_day.specs.declared.day.Day.{Day}
use Rattle.cad_day.specs.Days.{number_of}
use Rattle.cad_tables.specs.Texts.{history_text, listing_text}
use Rattle.cad_tables.specs.Refusals.{Statement}
use Rattle.cad_versions.specs.declared.body.Class.{Class}
use Rattle.cad_versions.specs.declared.object_id.ObjectId.{ObjectId}
use Rattle.cad_versions.specs.declared.fault.RegisterFault.{RegisterFault}
use Rattle.cad_versions.specs.declared.fault.RegisterFault.TheVariants as fault
use Rattle.cad_versions.specs.Class.{class_number}
use Rattle.cad_versions.specs.Keeping.{NamesDamage}
use Rattle.cad_versions.specs.Objects.{object_number}
use Rattle.cad_versions.specs.VersionedObject.{VersionedObject}
use Rattle.cad_register.specs.declared.columns.ReadFault.{ReadFault}
use Rattle.cad_register.specs.declared.columns.ReadFault.TheVariants.{Damaged, Memory}
use Rattle.cad_register.specs.Damage.{number_in, AreInOrder, IsFirstDamaged}
use Rattle.cad_register.specs.Leaving.{IsAsBefore}
use Rattle.cad_register.specs.Outlines.{outline}
use Rattle.cad_register.specs.Refusing.{asking}

-- ---- the rows of an object, by number

-- no version has the number, the class and the days of the row
abbrev pub IsBroken : Row → Type 0
IsBroken row = (v : VersionedObject) → row ≢ outline v

-- it has no class
abbrev pub HasNoClass : Row → Type 0
HasNoClass row = (class : Class) → column row 1 ≢ Int (pos (class_number class))

-- it is open, and has no first day
abbrev pub HasNoDay : Row → Type 0
HasNoDay row = (column row 3 ≡ Null) × ((day : Day) → column row 2 ≢ Int (number_of day))

-- the first row has the class of the object, if there is a row
abbrev pub FirstHasClass : List Row → Type 0
FirstHasClass rows = (row : Row) → slice_get rows 0 ≡ Some row → ¬ HasNoClass row

-- the last row says since when the object has an open version, if there is a row
abbrev pub LastHasDay : List Row → Type 0
LastHasDay rows = (row : Row) → slice_get rows (length rows - 1) ≡ Some row → ¬ HasNoDay row

-- the rows say the current state of the object: the first of them its class, and the last its open version
pub record TellStanding (rows : List Row) : Type 0 where
  pub class : FirstHasClass rows
  pub day : LastHasDay rows

-- the row at this place is the first without the answer that it is asked for: the first row for the class, and then the last for its day
abbrev pub IsFirstInVain : List Row → ℕ → Row → Type 0
IsFirstInVain rows place row = ((place ≡ 0) × HasNoClass row) ⊎ (FirstHasClass rows × (place ≡ length rows - 1) × HasNoDay row)

-- the first of the rows without the answer that it is asked for has this number, and is broken
pub record IsBrokenAt (rows : List Row) (number : ℤ) : Type 0 where
  pub place : ℕ
  pub row : Row
  pub stands : slice_get rows place ≡ Some row
  pub numbered : number_in (column row 0) ≡ number
  pub broken : IsBroken row
  pub first : IsFirstInVain rows place row

-- the fault that names a row of the object, or reports that memory ran out
abbrev pub fault_of_row : ObjectId → Row → ReadFault → RegisterFault
fault_of_row object row Damaged = fault.Damaged (pos (object_number object)) (number_in (column row 0))
fault_of_row object row Memory = fault.Memory

-- why the rows of an object do not say its current state: the first that is broken is named, or memory ran out
abbrev pub IsFaultIn : ObjectId → List Row → RegisterFault → Type 0
IsFaultIn object rows (fault.Damaged named number) = (named ≡ pos (object_number object)) × IsBrokenAt rows number
IsFaultIn object rows fault.Memory = Unit {0}
IsFaultIn object rows other = ⊥

-- ---- the rows of a question

-- of the rows shown for a question, the one with this object and number is the first that breaks a rule of its type: in the history of that
-- object, or by object and number in a listing of the newest revision
abbrev pub BreaksRule : Statement → List Row → ℤ → ℤ → Type 0
BreaksRule question rows named number =
    ((object : ObjectId) × (question ≡ asking history_text (object_number object)) × (named ≡ pos (object_number object)) × IsBrokenAt rows number)
    ⊎ ((revision : ℕ) × (ordered : List Row) × (question ≡ asking listing_text revision) × AreInOrder rows ordered × IsFirstDamaged revision (named, number) None 0 ordered)

-- ---- questions that are asked one after the other, up to the one after which the connection is the last

module _ {S : Type 0} (g : Ghosts S) (last : Held S) where
  -- it shows these rows for the question, as the database itself reports, and shows the same as before
  abbrev pub ShowsFor : Statement → Held S → Held S → List Row → Type 0
  ShowsFor question old new rows =
      HasCleanDisk (state g last) → IsAsBefore (state g old) (state g new) × Shown question.text question.params (state g old) (state g new) rows

  -- the rows shown for each question have the answers that they are asked for
  abbrev pub TellAll : List Statement → Held S → Held S → Type 0
  TellAll [] old new = new ≡ old
  TellAll (question ∷ later) old new =
      (mid : Held S) × (rows : List Row) × ShowsFor question old mid rows × TellStanding rows × TellAll later mid new

  -- for the first question whose rows do not, this row is the first of them that breaks a rule of its type
  abbrev pub FirstBreaks : List Statement → ℤ → ℤ → Held S → Type 0
  FirstBreaks [] named number old = ⊥
  FirstBreaks (question ∷ later) named number old =
      (mid : Held S) × (rows : List Row) × ShowsFor question old mid rows
      × (((mid ≡ last) × BreaksRule question rows named number) ⊎ (TellStanding rows × FirstBreaks later named number mid))

-- of the rows shown for these questions, asked one after the other, the first that breaks a rule is named
abbrev pub NamesFirst : {S : Type 0} → Ghosts S → Held S → Held S → List Statement → RegisterFault → Type 0
NamesFirst g old new questions = NamesDamage (λ named number. FirstBreaks g new questions named number old)
