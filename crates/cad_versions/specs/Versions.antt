-- The versions of the register, as commands make them (ISO 19152:2012, VersionedObject).
use Rattle.std.specs.Prelude.{ℕ, ◌+◌, pos, Bool, ◌&&◌, if◌then◌else◌, List, [], ◌∷◌, ◌++◌, length, map, filter, fold, Some, None, is_none}
use Rattle.std.specs.Ordering.{int_eq}
use Rattle.cad_day.specs.declared.day.Day.{Day}
use Rattle.cad_versions.specs.declared.object_id.ObjectId.{ObjectId}
use Rattle.cad_versions.specs.declared.body.Body.{Body}
use Rattle.cad_versions.specs.declared.command.Command.{Command}
use Rattle.cad_versions.specs.declared.command.Command.TheVariants.{Enter, Amend, Retire}
use Rattle.cad_versions.specs.Objects.{object_number}
use Rattle.cad_versions.specs.VersionedObject.{VersionedObject}
use Rattle.cad_day.specs.DayBefore.{day_before}

abbrev pub is_of : ObjectId → VersionedObject → Bool
is_of object v = int_eq (pos (object_number v.object)) (pos (object_number object))

abbrev pub is_open_of : ObjectId → VersionedObject → Bool
is_open_of object v = is_of object v && is_none v.last

-- the versions of one object, the oldest first
abbrev pub history : ObjectId → List VersionedObject → List VersionedObject
history object vs = filter (is_of object) vs

abbrev pub closed_on : Day → VersionedObject → VersionedObject
closed_on day v = record { object = v.object; number = v.number; first = v.first; last = Some day; body = v.body }

abbrev pub closed_if_open : ObjectId → Day → VersionedObject → VersionedObject
closed_if_open object day v = if is_open_of object v then closed_on day v else v

abbrev pub begun : ObjectId → ℕ → Day → Body → VersionedObject
begun object number first body = record { object = object; number = number; first = first; last = None; body = body }

abbrev pub next_number : ObjectId → List VersionedObject → ℕ
next_number object vs = length (history object vs) + 1

-- the versions after a command that is accepted
abbrev pub versions_after : List VersionedObject → Command → List VersionedObject
versions_after vs (Enter object first body) = vs ++ begun object 1 first body ∷ []
versions_after vs (Amend object first body) = map (closed_if_open object (day_before first)) vs ++ begun object (next_number object vs) first body ∷ []
versions_after vs (Retire object last) = map (closed_if_open object last) vs

-- the versions that the commands make one after the other, the oldest first
abbrev pub versions : List Command → List VersionedObject
versions commands = fold versions_after [] commands
