-- What is read of an object before a command (own profile).
use Rattle.std.specs.Prelude.{◌≡◌, ◌-◌, pos, is_none, if◌then◌else◌, List, [], ◌∷◌, length, slice_get, Option, Some, None, option_map}
use Rattle.std.specs.Option.{option_and_then}
use Rattle.sqlite_value.specs.declared.value.Value.TheVariants.{Int}
use Rattle.sqlite_value.specs.Order.{Row}
use Rattle.sqlite_typed.specs.Columns.{or_null}
use Rattle.cad_day.specs.declared.day.Day.{Day}
use Rattle.cad_day.specs.Days.{number_of}
use Rattle.cad_versions.specs.declared.object_id.ObjectId.{ObjectId}
use Rattle.cad_versions.specs.declared.body.Class.{Class}
use Rattle.cad_versions.specs.Class.{class_of, class_number}
use Rattle.cad_versions.specs.VersionedObject.{VersionedObject}
use Rattle.cad_versions.specs.Versions.{history}
use Rattle.cad_versions.specs.Refusals.{class_at, open_since}
use Rattle.cad_register.specs.declared.standing.ObjectState.{ObjectState}

-- number, class, first and last day
abbrev pub outline : VersionedObject → Row
outline v = Int (pos v.number) ∷ Int (pos (class_number (class_of v.body))) ∷ Int (number_of v.first) ∷ or_null Int (option_map number_of v.last) ∷ []

abbrev pub class_of_version : VersionedObject → Class
class_of_version v = class_of v.body

abbrev pub class_of_first : List VersionedObject → Option Class
class_of_first vs = option_map class_of_version (slice_get vs 0)

abbrev pub if_open : VersionedObject → Option Day
if_open v = if is_none v.last then Some v.first else None

abbrev pub opened_last : List VersionedObject → Option Day
opened_last vs = option_and_then if_open (slice_get vs (length vs - 1))

-- the current state of an object
pub record IsStanding (vs : List VersionedObject) (object : ObjectId) (s : ObjectState) : Type 0 where
  pub class : s.class ≡ class_at vs object
  pub open_since : s.open_since ≡ open_since vs object
  pub count : s.count ≡ length (history object vs)
