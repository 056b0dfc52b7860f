-- Why a command is refused (own profile).
use Rattle.std.specs.Prelude.{◌≡◌, ℕ, int_le, int_lt, nat_le, ◌==◌, Bool, true, false, not, ◌&&◌, List, [], ◌∷◌, length, find, Option, Some, None, option_map}
use Rattle.cad_day.specs.Days.{number_of}
use Rattle.cad_versions.specs.declared.object_id.ObjectId.{ObjectId}
use Rattle.cad_versions.specs.declared.body.Body.{Body}
use Rattle.cad_versions.specs.declared.body.Class.{Class}
use Rattle.cad_versions.specs.declared.body.Class.TheVariants as class
use Rattle.cad_versions.specs.declared.command.Command.{Command}
use Rattle.cad_versions.specs.declared.command.Command.TheVariants.{Enter, Amend, Retire}
use Rattle.cad_versions.specs.declared.fault.RegisterFault.{RegisterFault}
use Rattle.cad_versions.specs.declared.fault.RegisterFault.TheVariants as fault
use Rattle.cad_versions.specs.BodyParts.{unit_named, party_named}
use Rattle.cad_versions.specs.Class.{class_of, class_number}
use Rattle.cad_versions.specs.Command.{object_named, body_added}
use Rattle.cad_versions.specs.VersionedObject.{VersionedObject}
use Rattle.cad_versions.specs.Versions.{is_of, is_open_of, versions_after}
use Rattle.cad_day.specs.declared.day.Day.{Day}

-- the class of an object, if it was entered
abbrev pub class_at : List VersionedObject → ObjectId → Option Class
class_at vs object = option_map (λ v. class_of v.body) (find (is_of object) vs)

-- the first day of the object's open version, if it has one
abbrev pub open_since : List VersionedObject → ObjectId → Option Day
open_since vs object = option_map (λ v. v.first) (find (is_open_of object) vs)

abbrev pub is_class : Class → Option Class → Bool
is_class class None = false
is_class class (Some other) = class_number class == class_number other

-- the object that is named, if one is, was entered with this class
abbrev pub is_entered : List VersionedObject → Class → Option ObjectId → Bool
is_entered vs class None = true
is_entered vs class (Some object) = is_class class (class_at vs object)

abbrev pub are_entered : List VersionedObject → Body → Bool
are_entered vs body = is_entered vs class.Unit (unit_named body) && is_entered vs class.Party (party_named body)

abbrev pub most_versions : ℕ
most_versions = 2147483647

abbrev pub is_full : List VersionedObject → Bool
is_full vs = nat_le most_versions (length vs)

abbrev pub refuse_if : Bool → RegisterFault → Option RegisterFault
refuse_if true fault = Some fault
refuse_if false fault = None

-- the first of two causes
abbrev pub or_else : Option RegisterFault → Option RegisterFault → Option RegisterFault
or_else None next = next
or_else (Some fault) next = Some fault

-- the open version cannot be closed: there is no open version, or it begins too late
abbrev pub refuses_closing : (Day → Bool) → Option Day → Option RegisterFault
refuses_closing is_late None = Some fault.Retired
refuses_closing is_late (Some first) = refuse_if (is_late first) (fault.DayNotAfter first)

-- the current state of the object, its class and the first day of its open version, refuses the command
abbrev pub refuses_object : Option Class → Option Day → Command → Option RegisterFault
refuses_object None open_since (Enter object first body) = None
refuses_object (Some class) open_since (Enter object first body) = Some fault.KnownObject
refuses_object None open_since (Amend object first body) = Some fault.UnknownObject
refuses_object (Some class) open_since (Amend object first body) =
    or_else (refuse_if (not (class_number class == class_number (class_of body))) fault.OtherClass)
    (refuses_closing (λ begun. int_le (number_of first) (number_of begun)) open_since)
refuses_object None open_since (Retire object last) = Some fault.UnknownObject
refuses_object (Some class) open_since (Retire object last) = refuses_closing (λ begun. int_lt (number_of last) (number_of begun)) open_since

-- the version that the command adds names an object that was not entered, or has no room
abbrev pub refuses_addition : Bool → Bool → Option RegisterFault
refuses_addition are_known is_full = or_else (refuse_if (not are_known) fault.UnknownReference) (refuse_if is_full fault.Full)

abbrev pub refuses_body : List VersionedObject → Option Body → Option RegisterFault
refuses_body vs None = None
refuses_body vs (Some body) = refuses_addition (are_entered vs body) (is_full vs)

-- the first cause for which the command is refused, in the order of the checks
abbrev pub refusal : List VersionedObject → Command → Option RegisterFault
refusal vs command =
    or_else (refuses_object (class_at vs (object_named command)) (open_since vs (object_named command)) command) (refuses_body vs (body_added command))

-- each command is accepted after those before it
abbrev pub AreAccepted : List VersionedObject → List Command → Type 0
AreAccepted vs [] = Unit {0}
AreAccepted vs (c ∷ cs) = (refusal vs c ≡ None) × AreAccepted (versions_after vs c) cs
