-- Commands as the JSON objects that say them, members in byte order of their names (own profile).
use Rattle.std.specs.Prelude.{◌≡◌, ℕ, ℤ, ◌≤◌, ◌==◌, Bool, true, not, ◌&&◌, List, [], ◌∷◌, length, codes, Option, Some, None, bytes_eq, if◌then◌else◌}
use Rattle.std.specs.List.{list_any}
use Rattle.serde_json.specs.Data.{Data, Items, no_items, item, Members, no_members, member, unsigned}
use Rattle.serde_json.specs.Data as json
use Rattle.serde_json.specs.Find.{of_integer}
use Rattle.serde_json.specs.Written.{compact_text}
use Rattle.cad_day.specs.declared.day.Day.{Day}
use Rattle.cad_day.specs.Days.{number_of}
use Rattle.cad_day.specs.DayTexts.{day_text}
use Rattle.cad_shape.specs.declared.point.Point.{Point}
use Rattle.cad_shape.specs.declared.ring.Ring.{Ring}
use Rattle.cad_shape.specs.declared.polygon.Region.{Region}
use Rattle.cad_shape.specs.Rings.{corners_of}
use Rattle.cad_shape.specs.RegionRings.{rings_of}
use Rattle.cad_versions.specs.declared.object_id.ObjectId.{ObjectId}
use Rattle.cad_versions.specs.declared.share.Share.{Share}
use Rattle.cad_versions.specs.declared.words.Words.{Words}
use Rattle.cad_versions.specs.declared.body.Body.{Body}
use Rattle.cad_versions.specs.declared.body_parts.BodyParts.{BodyParts}
use Rattle.cad_versions.specs.declared.command.Command.{Command}
use Rattle.cad_versions.specs.declared.command.Command.TheVariants.{Enter, Amend, Retire}
use Rattle.cad_versions.specs.Objects.{object_number}
use Rattle.cad_versions.specs.Texts.{bytes_of}
use Rattle.cad_versions.specs.Fractions.{num_of, den_of}
use Rattle.cad_versions.specs.Class.{class_attributes, class_name, class_of}
use Rattle.cad_versions.specs.BodyParts.{parts_of}

-- ---- values

abbrev pub whole_json : ℕ → Data
whole_json n = json.number (unsigned n)

abbrev pub integer_json : ℤ → Data
integer_json n = json.number (of_integer n)

abbrev pub object_json : ObjectId → Data
object_json object = whole_json (object_number object)

abbrev pub words_json : Words → Data
words_json words = json.string (bytes_of words)

abbrev pub day_json : Day → Data
day_json day = json.string (day_text (number_of day))

abbrev pub pair_json : Data → Data → Data
pair_json first second = json.array (item first (item second no_items))

abbrev pub share_json : Share → Data
share_json share = pair_json (whole_json (num_of share)) (whole_json (den_of share))

abbrev pub point_json : Point → Data
point_json point = pair_json (integer_json point.x) (integer_json point.y)

abbrev pub points_json : List Point → Items
points_json [] = no_items
points_json (point ∷ points) = item (point_json point) (points_json points)

abbrev pub ring_json : Ring → Data
ring_json ring = json.array (points_json (corners_of ring))

abbrev pub rings_json : List Ring → Items
rings_json [] = no_items
rings_json (ring ∷ rings) = item (ring_json ring) (rings_json rings)

abbrev pub outline_in : List Ring → Data
outline_in [] = json.null
outline_in (outer ∷ holes) = ring_json outer

abbrev pub holes_in : List Ring → Data
holes_in [] = json.null
holes_in (outer ∷ holes) = json.array (rings_json holes)

-- the exterior boundary of a region
abbrev pub outline_json : Region → Data
outline_json region = outline_in (rings_of region)

-- its holes, in a list that may be empty
abbrev pub holes_json : Region → Data
holes_json region = holes_in (rings_of region)

abbrev pub or_null : {X : Type 0} → (X → Data) → Option X → Data
or_null json_of None = json.null
or_null json_of (Some x) = json_of x

-- ---- objects

-- all members that bodies may have, in byte order of their names; where there is no such part, the value is null
abbrev pub part_members : BodyParts → Members
part_members parts =
    member (codes "area") (or_null whole_json parts.area) (member (codes "code") (or_null words_json parts.code) (member (codes "holes") (or_null holes_json parts.shape)
    (member (codes "label") (or_null words_json parts.label) (member (codes "name") (or_null words_json parts.name) (member (codes "party") (or_null object_json parts.party)
    (member (codes "required") (or_null json.boolean parts.required) (member (codes "shape") (or_null outline_json parts.shape) (member (codes "share") (or_null share_json parts.share)
    (member (codes "spot") (or_null point_json parts.spot) (member (codes "unit") (or_null object_json parts.unit) no_members))))))))))

-- the name is one of these
abbrev pub is_among : List (List ℕ) → List ℕ → Bool
is_among names name = list_any (λ other. bytes_eq other name) names

-- the members of these names
abbrev pub chosen : List (List ℕ) → Members → Members
chosen names no_members = no_members
chosen names (member name d ms) = if is_among names name then member name d (chosen names ms) else chosen names ms

-- the members that a body of its class may have (ISO 19152:2012, attributes of the classes)
abbrev pub body_members : Body → Members
body_members body = chosen (class_attributes (class_of body)) (part_members (parts_of body))

-- what begins a version
abbrev pub beginning_members : List ℕ → ObjectId → Day → Body → Members
beginning_members operation object first body =
    member (codes "do") (json.string operation) (member (codes "first") (day_json first) (member (codes "object") (object_json object)
    (member (class_name (class_of body)) (json.object (body_members body)) no_members)))

abbrev pub command_members : Command → Members
command_members (Enter object first body) = beginning_members (codes "enter") object first body
command_members (Amend object first body) = beginning_members (codes "amend") object first body
command_members (Retire object last) =
    member (codes "do") (json.string (codes "retire")) (member (codes "last") (day_json last) (member (codes "object") (object_json object) no_members))

-- ---- texts

-- the object's text with no space (RFC 8259)
abbrev pub command_text : Command → List ℕ
command_text command = compact_text (json.object (command_members command))

-- none of the bytes is LF
abbrev pub is_one_line : List ℕ → Bool
is_one_line [] = true
is_one_line (byte ∷ bytes) = not (byte == 10) && is_one_line bytes

-- the command's text has no line end in it and at most 65,536 bytes
pub record IsOneLine (command : Command) : Type 0 where
  pub unbroken : is_one_line (command_text command) ≡ true
  pub short : length (command_text command) ≤ 65536
