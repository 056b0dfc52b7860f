-- Why a line is no command, and that the cause that is named is true of the line (own profile).
use Rattle.std.specs.Prelude.{◌≡◌, ◌≢◌, ⊤, ℕ, ◌<◌, ◌≤◌, ◌⊎◌, List, [], ◌∷◌, length, codes, Some, None, IsUtf8, string_bytes}
use Rattle.std.specs.Option.{option_and_then}
use Rattle.serde_json.specs.Data.{Data, Items, Members, no_members, member}
use Rattle.serde_json.specs.Find.{as_array, as_object, get_item}
use Rattle.serde_json.specs.Read.{read}
use Rattle.cad_shape.specs.declared.point.Point.{Point}
use Rattle.cad_shape.specs.declared.ring.Ring.{Ring}
use Rattle.cad_shape.specs.Rings.{IsRingFault}
use Rattle.cad_shape.specs.RegionRings.{IsRegionFault}
use Rattle.cad_versions.specs.declared.body.Class.{Class}
use Rattle.cad_versions.specs.declared.command.Command.{Command}
use Rattle.cad_versions.specs.Class.{class_attributes, class_name}
use Rattle.cad_commands.specs.declared.operation.Operation.TheVariants.{Retire}
use Rattle.cad_commands.specs.Members.{Has, HasOneOther, member_in, without_all}
use Rattle.cad_commands.specs.Values.{ArePointsOf, IsRingOf, MayHaveHoles}
use Rattle.cad_commands.specs.Commands.{IsOperationOf, names_beside}
use Rattle.cad_office.specs.Keeping.{Asks}
use Rattle.cad_office.specs.Lines.{longest_line}
use Rattle.cad_dry_run.specs.declared.cause.RingCause.{RingCause}
use Rattle.cad_dry_run.specs.declared.cause.RingCause.TheVariants as ring
use Rattle.cad_dry_run.specs.declared.cause.MemberCause.{MemberCause}
use Rattle.cad_dry_run.specs.declared.cause.MemberCause.TheVariants as cause
use Rattle.cad_dry_run.specs.declared.cause.ObjectCause.{ObjectCause}
use Rattle.cad_dry_run.specs.declared.cause.ObjectCause.TheVariants as object
use Rattle.cad_dry_run.specs.declared.cause.Cause.{Cause}
use Rattle.cad_dry_run.specs.declared.cause.Cause.TheVariants as line
use Rattle.cad_dry_run.specs.declared.cause.Explanation.{Explanation}
use Rattle.cad_dry_run.specs.Names.{name_text}
use Rattle.cad_dry_run.specs.ValueFaults.{IsWrong}

-- the value is no ring: it is no list, one of its items is no point, or its points are no ring
abbrev pub IsNoRing : Data → RingCause → Type 0
IsNoRing d ring.NotAList = as_array d ≡ None
IsNoRing d (ring.Corner i fault) = (ds : Items) × (corner : Data) × (as_array d ≡ Some ds) × (get_item i ds ≡ Some corner) × IsWrong corner fault
IsNoRing d (ring.Fault fault) = (ds : Items) × (corners : List Point) × (as_array d ≡ Some ds) × ArePointsOf ds corners × IsRingFault corners fault

-- what is wrong with the members of an object
abbrev pub IsWrongIn : Members → MemberCause → Type 0
IsWrongIn ms (cause.Missing name) = member_in (name_text name) ms ≡ None
IsWrongIn ms (cause.Wrong name fault) = (d : Data) × (member_in (name_text name) ms ≡ Some d) × IsWrong d fault
IsWrongIn ms (cause.Outline why) = (d : Data) × (member_in (codes "shape") ms ≡ Some d) × IsNoRing d why
IsWrongIn ms (cause.Hole k why) =
    (d : Data) × (ds : Items) × (hole : Data) × (member_in (codes "holes") ms ≡ Some d) × (as_array d ≡ Some ds) × (get_item k ds ≡ Some hole) × IsNoRing hole why
IsWrongIn ms (cause.Region fault) =
    (d : Data) × (outer : Ring) × (holes : List Ring) × (member_in (codes "shape") ms ≡ Some d) × IsRingOf d outer × MayHaveHoles (member_in (codes "holes") ms) holes × IsRegionFault (outer ∷ holes) fault
IsWrongIn ms cause.HolesWithoutShape = (d : Data) × (member_in (codes "shape") ms ≡ None) × (member_in (codes "holes") ms ≡ Some d)

-- one of the members has this name
abbrev pub HasName : List ℕ → Members → Type 0
HasName name no_members = ⊥
HasName name (member other d ms) = (name ≡ other) ⊎ HasName name ms

-- the object of a command that retires an object
abbrev pub IsOfRetirement : Members → Type 0
IsOfRetirement ms = Has IsOperationOf (codes "do") ms Retire

-- the body of the class is this value
abbrev pub HasBody : Members → Class → Data → Type 0
HasBody ms class d = HasOneOther names_beside ms (class_name class) d

-- what is wrong with the object of a line
abbrev pub IsWrongOf : Members → ObjectCause → Type 0
IsWrongOf ms (object.Member why) = IsWrongIn ms why
IsWrongOf ms (object.UnknownAtEnd name) =
    IsOfRetirement ms × HasName (string_bytes name) (without_all (codes "do" ∷ codes "object" ∷ codes "last" ∷ []) ms)
IsWrongOf ms (object.UnknownBeside name) =
    HasName (string_bytes name) (without_all names_beside ms) × ((class : Class) → string_bytes name ≢ class_name class)
IsWrongOf ms object.NoBody = without_all names_beside ms ≡ no_members
IsWrongOf ms (object.TwoBodies one other) =
    (d : Data) × (e : Data) × (more : Members) × (without_all names_beside ms ≡ member (class_name one) d (member (class_name other) e more))
IsWrongOf ms (object.BodyNotAnObject class) = (d : Data) × HasBody ms class d × (as_object d ≡ None)
IsWrongOf ms (object.InBody class why) = (d : Data) × (inner : Members) × HasBody ms class d × (as_object d ≡ Some inner) × IsWrongIn inner why
IsWrongOf ms (object.UnknownInBody class name) =
    (d : Data) × (inner : Members) × HasBody ms class d × (as_object d ≡ Some inner) × HasName (string_bytes name) (without_all (class_attributes class) inner)

-- the cause is true of the line
abbrev pub IsCauseOf : List ℕ → Cause → Type 0
IsCauseOf text line.LongLine = longest_line < length text
IsCauseOf text line.NotUtf8 = ¬ IsUtf8 text
IsCauseOf text line.JsonEnds = read text ≡ None
IsCauseOf text line.NotJson = read text ≡ None
IsCauseOf text line.NotAnObject = (d : Data) × (read text ≡ Some d) × (as_object d ≡ None)
IsCauseOf text (line.Object why) = (ms : Members) × (option_and_then as_object (read text) ≡ Some ms) × IsWrongOf ms why
IsCauseOf text line.Unexplained = ⊤

-- the cause is true of the line, and its place lies in the line or at its end
pub record Explains (text : List ℕ) (explanation : Explanation) : Type 0 where
  pub within : explanation.place ≤ length text
  pub cause : IsCauseOf text explanation.cause

-- and no command is asked for
pub record IsNoCommand (text : List ℕ) (explanation : Explanation) : Type 0 where
  pub none : (command : Command) → ¬ Asks text command
  pub why : Explains text explanation
