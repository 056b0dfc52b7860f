-- The days of a version (ISO 19152:2012, VersionedObject: beginLifespanVersion and endLifespanVersion).
use Rattle.std.specs.Prelude.{int_le, Bool, true, ◌&&◌, Option, Some, None}
use Rattle.cad_day.specs.declared.day.Day.{Day}
use Rattle.cad_day.specs.Days.{number_of}
use Rattle.cad_versions.specs.VersionedObject.{VersionedObject}

abbrev pub is_up_to : Option Day → Day → Bool
is_up_to None day = true
is_up_to (Some last) day = int_le (number_of day) (number_of last)

-- the day is the version's first one or a later one, and not after its last one
abbrev pub holds_on : Day → VersionedObject → Bool
holds_on day v = int_le (number_of v.first) (number_of day) && is_up_to v.last day
