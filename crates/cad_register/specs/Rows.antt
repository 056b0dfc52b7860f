-- A version as a row of the table, as it is written today (own profile).
use Rattle.std.specs.Prelude.{Vec, ℕ, ℤ, Bool, true, false, List, option_map}
use Rattle.std.specs.Global.{Global}
use Rattle.cad_day.specs.Days.{number_of}
use Rattle.cad_shape.specs.declared.point.Point.{Point}
use Rattle.cad_tables.specs.VersionRow.{VersionRow}
use Rattle.cad_versions.specs.Objects.{object_number}
use Rattle.cad_versions.specs.Texts.{bytes_of}
use Rattle.cad_versions.specs.Fractions.{num_of, den_of}
use Rattle.cad_versions.specs.Class.{class_of, class_number}
use Rattle.cad_versions.specs.BodyParts.{name_in, code_in, label_in, area_in, unit_named, party_named, share_in, required_in, spot_in, shape_in}
use Rattle.cad_versions.specs.ShapeBytes.{shape_bytes}
use Rattle.cad_versions.specs.Entries.{Entry}

abbrev pub flag_number : Bool → ℕ
flag_number false = 0
flag_number true = 1

abbrev pub x_of : Point → ℤ
x_of point = point.x

abbrev pub y_of : Point → ℤ
y_of point = point.y

-- the row that is written for an entry; the table may also have rows of earlier forms
abbrev pub line_of : Entry → VersionRow
line_of entry = record {
  object = object_number entry.version.object;
  number = entry.version.number;
  class = class_number (class_of entry.version.body);
  first = number_of entry.version.first;
  last = option_map number_of entry.version.last;
  entered = entry.entered;
  closed = entry.closed;
  name = option_map bytes_of (name_in entry.version.body);
  code = option_map bytes_of (code_in entry.version.body);
  label = option_map bytes_of (label_in entry.version.body);
  area = area_in entry.version.body;
  unit = option_map object_number (unit_named entry.version.body);
  party = option_map object_number (party_named entry.version.body);
  share_num = option_map num_of (share_in entry.version.body);
  share_den = option_map den_of (share_in entry.version.body);
  required = option_map flag_number (required_in entry.version.body);
  spot_x = option_map x_of (spot_in entry.version.body);
  spot_y = option_map y_of (spot_in entry.version.body);
  shape = option_map shape_bytes (shape_in entry.version.body);
}

abbrev pub items_of : Vec ℕ Global → List ℕ
items_of bytes = bytes.items
