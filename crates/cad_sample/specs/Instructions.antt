-- What a command says, in numbers and texts (ISO 19152:2012, attributes of the classes).
use Rattle.std.specs.Prelude.{ℕ, ℤ, Bool, List, map, Option, Some, None, option_map}
use Rattle.cad_shape.specs.declared.point.Point.{Point}
use Rattle.cad_shape.specs.declared.ring.Ring.{Ring}
use Rattle.cad_shape.specs.declared.polygon.Region.{Region}
use Rattle.cad_shape.specs.Rings.{corners_of}
use Rattle.cad_shape.specs.RegionRings.{rings_of}
use Rattle.cad_day.specs.Days.{number_of}
use Rattle.cad_versions.specs.declared.share.Share.{Share}
use Rattle.cad_versions.specs.declared.body.Body.{Body}
use Rattle.cad_versions.specs.declared.body.Class.{Class}
use Rattle.cad_versions.specs.declared.body.Class.TheVariants as class
use Rattle.cad_versions.specs.declared.command.Command.{Command}
use Rattle.cad_versions.specs.declared.command.Command.TheVariants as command
use Rattle.cad_versions.specs.BodyParts.{name_in, code_in, label_in, area_in, unit_named, party_named, share_in, required_in, spot_in, shape_in}
use Rattle.cad_versions.specs.Class.{class_of}
use Rattle.cad_versions.specs.Objects.{object_number}
use Rattle.cad_versions.specs.Texts.{bytes_of}
use Rattle.cad_versions.specs.Fractions.{num_of, den_of}

-- the class of a body, and its parts, each there only if the class has it; of a shape, the corners of each ring
pub record Attributes : Type 0 where
  pub class : Class
  pub name : Option (List ℕ)
  pub code : Option (List ℕ)
  pub label : Option (List ℕ)
  pub area : Option ℕ
  pub unit : Option ℕ
  pub party : Option ℕ
  pub share : Option (ℕ × ℕ)
  pub required : Option Bool
  pub spot : Option (ℤ × ℤ)
  pub shape : Option (List (List (ℤ × ℤ)))

abbrev pub without_parts : Class → Attributes
without_parts c = record { class = c; name = None; code = None; label = None; area = None; unit = None; party = None; share = None; required = None; spot = None; shape = None }

abbrev pub a_party : Option (List ℕ) → List ℕ → Attributes
a_party name code = record (without_parts class.Party) { name = name; code = Some code }

abbrev pub a_unit : Option (List ℕ) → Attributes
a_unit name = record (without_parts class.Unit) { name = name }

abbrev pub a_parcel : ℕ → List ℕ → Option ℕ → Option (List (List (ℤ × ℤ))) → Option (ℤ × ℤ) → Attributes
a_parcel unit label area shape spot = record (without_parts class.Parcel) { unit = Some unit; label = Some label; area = area; shape = shape; spot = spot }

abbrev pub a_right : ℕ → Option ℕ → List ℕ → Option (ℕ × ℕ) → Attributes
a_right unit party code share = record (without_parts class.Right) { unit = Some unit; party = party; code = Some code; share = share }

abbrev pub a_restriction : ℕ → Option ℕ → List ℕ → Option (ℕ × ℕ) → Option Bool → Attributes
a_restriction unit party code share required = record (without_parts class.Restriction) { unit = Some unit; party = party; code = Some code; share = share; required = required }

-- the object, the first or the last day, and what the new version says
pub data Instruction : Type 0 where
  to_enter : ℕ → ℤ → Attributes → Instruction
  to_amend : ℕ → ℤ → Attributes → Instruction
  to_retire : ℕ → ℤ → Instruction

abbrev pub coordinates_of : Point → ℤ × ℤ
coordinates_of p = (p.x, p.y)

-- the corners of a ring in order, the first not repeated
abbrev pub outline_of : Ring → List (ℤ × ℤ)
outline_of ring = map coordinates_of (corners_of ring)

-- the outlines of a region, that of the exterior boundary first
abbrev pub outlines_of : Region → List (List (ℤ × ℤ))
outlines_of region = map outline_of (rings_of region)

abbrev pub parts_of : Share → ℕ × ℕ
parts_of s = (num_of s, den_of s)

abbrev pub attributes_of : Body → Attributes
attributes_of body = record {
  class = class_of body;
  name = option_map bytes_of (name_in body);
  code = option_map bytes_of (code_in body);
  label = option_map bytes_of (label_in body);
  area = area_in body;
  unit = option_map object_number (unit_named body);
  party = option_map object_number (party_named body);
  share = option_map parts_of (share_in body);
  required = required_in body;
  spot = option_map coordinates_of (spot_in body);
  shape = option_map outlines_of (shape_in body);
}

abbrev pub instruction_of : Command → Instruction
instruction_of (command.Enter object first body) = to_enter (object_number object) (number_of first) (attributes_of body)
instruction_of (command.Amend object first body) = to_amend (object_number object) (number_of first) (attributes_of body)
instruction_of (command.Retire object last) = to_retire (object_number object) (number_of last)
