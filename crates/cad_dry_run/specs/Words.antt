-- What is printed for a line that is no command (own profile).
use Rattle.std.specs.Prelude.{ℕ, ◌-◌, List, ◌++◌, codes, decimal, string_bytes}
use Rattle.json.specs.Print.{quoted}
use Rattle.cad_shape.specs.declared.ring.RingFault.{RingFault}
use Rattle.cad_shape.specs.declared.ring.RingFault.TheVariants as outline
use Rattle.cad_shape.specs.declared.polygon.RegionFault.{RegionFault}
use Rattle.cad_shape.specs.declared.polygon.RegionFault.TheVariants as region
use Rattle.cad_versions.specs.Class.{class_name}
use Rattle.cad_dry_run.specs.declared.cause.ValueFault.{ValueFault}
use Rattle.cad_dry_run.specs.declared.cause.ValueFault.TheVariants as fault
use Rattle.cad_dry_run.specs.declared.cause.RingCause.{RingCause}
use Rattle.cad_dry_run.specs.declared.cause.RingCause.TheVariants as ring
use Rattle.cad_dry_run.specs.declared.cause.MemberCause.{MemberCause}
use Rattle.cad_dry_run.specs.declared.cause.MemberCause.TheVariants as cause
use Rattle.cad_dry_run.specs.declared.cause.ObjectCause.{ObjectCause}
use Rattle.cad_dry_run.specs.declared.cause.ObjectCause.TheVariants as object
use Rattle.cad_dry_run.specs.declared.cause.Cause.{Cause}
use Rattle.cad_dry_run.specs.declared.cause.Cause.TheVariants as line
use Rattle.cad_dry_run.specs.declared.cause.Explanation.{Explanation}
use Rattle.cad_dry_run.specs.Names.{name_text}

-- what is wrong with a value
abbrev pub fault_text : ValueFault → List ℕ
fault_text fault.NotAnOperation = codes "not enter, amend or retire"
fault_text fault.NotANumber = codes "not a whole number from 0 on"
fault_text fault.NotAnObjectNumber = codes "not from 1 to 2147483647"
fault_text fault.TooLarge = codes "above 4294967295"
fault_text fault.NotADay = codes "not a day YYYY-MM-DD"
fault_text fault.NotAText = codes "not a text"
fault_text fault.Empty = codes "an empty text"
fault_text fault.TooLong = codes "a text of more than 200 bytes"
fault_text fault.HasNul = codes "a text with U+0000"
fault_text fault.NotAFlag = codes "not true or false"
fault_text fault.NotAPair = codes "not two whole numbers from 0 on"
fault_text fault.NotAShare = codes "not 1 <= num <= den <= 1000000000"
fault_text fault.NotAPoint = codes "not two whole numbers"
fault_text fault.TooFar = codes "farther than 100000000000"
fault_text fault.NotAList = codes "not a list"

-- what is wrong with corners; the numbers are those of the two edges
abbrev pub ring_text : RingFault → List ℕ
ring_text outline.TooFew = codes ": TooFew"
ring_text outline.TooMany = codes ": TooMany"
ring_text outline.Flat = codes ": Flat"
ring_text (outline.Crosses i j) = codes ": Crosses " ++ (decimal i ++ (codes " " ++ decimal j))

-- what is wrong with a list of corners, after its name
abbrev pub outline_text : RingCause → List ℕ
outline_text ring.NotAList = codes ": not a list"
outline_text (ring.Corner i fault) = codes "[" ++ (decimal i ++ (codes "]: " ++ fault_text fault))
outline_text (ring.Fault fault) = ring_text fault

-- what is wrong with the rings of a region; ring 1 is the hole 0
abbrev pub region_text : RegionFault → List ℕ
region_text (region.Outside i) = codes "holes[" ++ (decimal (i - 1) ++ codes "]: Outside")
region_text region.TooMany = codes "holes: TooMany"
region_text region.NoRing = codes "holes: NoRing"

-- what is wrong with a member, after the name of its body
abbrev pub member_text : MemberCause → List ℕ
member_text (cause.Missing name) = name_text name ++ codes ": missing"
member_text (cause.Wrong name fault) = name_text name ++ (codes ": " ++ fault_text fault)
member_text (cause.Outline why) = codes "shape" ++ outline_text why
member_text (cause.Hole k why) = codes "holes[" ++ (decimal k ++ (codes "]" ++ outline_text why))
member_text (cause.Region fault) = region_text fault
member_text cause.HolesWithoutShape = codes "holes: no shape"

-- a name that the line has and a command does not, as JSON spells it
abbrev pub unknown_text : List ℕ → List ℕ
unknown_text name = quoted name ++ codes ": unknown"

-- what is wrong with an object
abbrev pub object_text : ObjectCause → List ℕ
object_text (object.Member why) = member_text why
object_text (object.UnknownAtEnd name) = unknown_text (string_bytes name)
object_text (object.UnknownBeside name) = unknown_text (string_bytes name)
object_text object.NoBody = codes "no body"
object_text (object.TwoBodies one other) = class_name one ++ (codes " and " ++ (class_name other ++ codes ": two bodies"))
object_text (object.BodyNotAnObject class) = class_name class ++ codes ": not an object"
object_text (object.InBody class why) = class_name class ++ (codes "." ++ member_text why)
object_text (object.UnknownInBody class name) = class_name class ++ (codes "." ++ unknown_text (string_bytes name))

-- what is wrong with a line
abbrev pub cause_text : Cause → List ℕ
cause_text line.LongLine = codes "more than 65536 bytes"
cause_text line.NotUtf8 = codes "not UTF-8"
cause_text line.JsonEnds = codes "the JSON ends here"
cause_text line.NotJson = codes "not JSON"
cause_text line.NotAnObject = codes "not an object"
cause_text (line.Object why) = object_text why
cause_text line.Unexplained = codes "no cause found"

-- the line that is printed
abbrev pub explanation_text : Explanation → List ℕ
explanation_text e = codes "no command at " ++ (decimal e.place ++ (codes ": " ++ (cause_text e.cause ++ codes "\n")))
