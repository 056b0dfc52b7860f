-- What a command changes in the features of a register (ISO 19152:2012, VersionedObject; OGC 17-069r4, 7.15: items).
use Rattle.std.specs.Prelude.{Bool, false, ◌&&◌, ◌||◌, pos, int_le, int_lt, List, map, filter, Option, Some, None, option_and_then, if◌then◌else◌}
use Rattle.std.specs.Ordering.{int_eq}
use Rattle.cad_day.specs.declared.day.Day.{Day}
use Rattle.cad_day.specs.Days.{number_of}
use Rattle.cad_versions.specs.declared.command.Command.{Command}
use Rattle.cad_versions.specs.declared.command.Command.TheVariants.{Enter, Amend, Retire}
use Rattle.cad_versions.specs.declared.object_id.ObjectId.{ObjectId}
use Rattle.cad_versions.specs.BodyParts.{unit_named, party_named}
use Rattle.cad_versions.specs.Command.{object_named}
use Rattle.cad_day.specs.DayBefore.{day_before}
use Rattle.cad_versions.specs.Identifiers.{by_identifier as by_version}
use Rattle.cad_versions.specs.Objects.{object_number}
use Rattle.cad_versions.specs.VersionedObject.{VersionedObject}
use Rattle.cad_versions.specs.Versions.{is_open_of, closed_if_open, begun, next_number}
use Rattle.cad_schema.specs.declared.collection.Collection.{Collection}
use Rattle.cad_feature.specs.Features.{Item, by_identifier}
use Rattle.cad_feature.specs.Flatten.{is_in, feature_in}
use Rattle.cad_layer.specs.Merging.{put_if}

-- ---- versions

-- the version that the command adds, if it adds one
abbrev pub version_added : List VersionedObject → Command → Option VersionedObject
version_added vs (Enter object first body) = Some (begun object 1 first body)
version_added vs (Amend object first body) = Some (begun object (next_number object vs) first body)
version_added vs (Retire object last) = None

-- a version as the command leaves it
abbrev pub left_by : Command → VersionedObject → VersionedObject
left_by (Enter object first body) v = v
left_by (Amend object first body) v = closed_if_open object (day_before first) v
left_by (Retire object last) v = closed_if_open object last v

-- the versions after the command, in the order of identifiers
abbrev pub next : List VersionedObject → Command → List VersionedObject
next vs c = put_if by_version (version_added vs c) (map (left_by c) vs)

-- ---- what may change

-- it is the version that the command closes
abbrev pub is_closed_by : Command → VersionedObject → Bool
is_closed_by (Enter object first body) v = false
is_closed_by (Amend object first body) v = is_open_of object v
is_closed_by (Retire object last) v = is_open_of object v

-- the command may change the name of its object on this day
abbrev pub renames_on : Command → Day → Bool
renames_on (Enter object first body) day = int_le (number_of first) (number_of day)
renames_on (Amend object first body) day = int_le (number_of first) (number_of day)
renames_on (Retire object last) day = int_lt (number_of last) (number_of day)

abbrev pub is_object : ObjectId → Option ObjectId → Bool
is_object object None = false
is_object object (Some other) = int_eq (pos (object_number other)) (pos (object_number object))

-- it names the object
abbrev pub names : ObjectId → VersionedObject → Bool
names object v = is_object object (unit_named v.body) || is_object object (party_named v.body)

-- closed, or joined with a name that may be different now
abbrev pub is_touched_by : Command → VersionedObject → Bool
is_touched_by c v = is_closed_by c v || (renames_on c v.first && names (object_named c) v)

-- ---- features

-- this version's feature, if it is of the collection
abbrev pub feature_if_in : List VersionedObject → Collection → VersionedObject → Option Item
feature_if_in vs collection v = if is_in collection v then Some (feature_in vs collection v) else None

-- the features after the command of those versions that it touches
abbrev pub features_left : List VersionedObject → Command → Collection → List Item
features_left vs c collection = map (λ v. feature_in (next vs c) collection (left_by c v)) (filter (is_touched_by c) (filter (is_in collection) vs))

-- the feature that the command adds
abbrev pub feature_added : List VersionedObject → Command → Collection → Option Item
feature_added vs c collection = option_and_then (feature_if_in (next vs c) collection) (version_added vs c)

-- the features that are new after the command, or may be different from before
abbrev pub touched : List VersionedObject → Command → Collection → List Item
touched vs c collection = put_if by_identifier (feature_added vs c collection) (features_left vs c collection)
