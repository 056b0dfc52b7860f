-- The parts of a body as columns (own profile).
use Rattle.std.specs.Prelude.{◌≡◌, ◌<◌, ◌^◌, ℕ, List, pos, Option, Some, None, option_map}
use Rattle.std.specs.Option.{ForSome}
use Rattle.sqlite_value.specs.declared.value.Value.{Value}
use Rattle.sqlite_value.specs.declared.value.Value.TheVariants.{Null, Int, Text, Blob}
use Rattle.sqlite_value.specs.Order.{Row, column}
use Rattle.sqlite_typed.specs.Columns.{or_null}
use Rattle.cad_shape.specs.declared.polygon.Region.{Region}
use Rattle.cad_versions.specs.declared.body_parts.BodyParts.{BodyParts}
use Rattle.cad_versions.specs.Objects.{object_number}
use Rattle.cad_versions.specs.Texts.{bytes_of}
use Rattle.cad_versions.specs.ShapeBytes.{IsShapeOf}
use Rattle.cad_versions.specs.Fractions.{num_of, den_of}
use Rattle.cad_register.specs.Rows.{flag_number, x_of, y_of}

-- NULL if there is no shape, else bytes that encode it, in either form in which shapes are stored
abbrev pub HasShape : Value → Option Region → Type 0
HasShape cell None = cell ≡ Null
HasShape cell (Some region) = (bytes : List ℕ) × (cell ≡ Blob bytes) × IsShapeOf bytes region

-- the row has these parts of a body in its columns
pub record HasParts (row : Row) (parts : BodyParts) : Type 0 where
  pub name : column row 7 ≡ or_null Text (option_map bytes_of parts.name)
  pub code : column row 8 ≡ or_null Text (option_map bytes_of parts.code)
  pub label : column row 9 ≡ or_null Text (option_map bytes_of parts.label)
  pub area : (column row 10 ≡ or_null (λ n. Int (pos n)) parts.area) × ForSome parts.area (λ n. n < 2 ^ 32)
  pub unit : column row 11 ≡ or_null (λ n. Int (pos n)) (option_map object_number parts.unit)
  pub party : column row 12 ≡ or_null (λ n. Int (pos n)) (option_map object_number parts.party)
  pub share : (column row 13 ≡ or_null (λ n. Int (pos n)) (option_map num_of parts.share)) × (column row 14 ≡ or_null (λ n. Int (pos n)) (option_map den_of parts.share))
  pub required : column row 15 ≡ or_null (λ n. Int (pos n)) (option_map flag_number parts.required)
  pub spot : (column row 16 ≡ or_null Int (option_map x_of parts.spot)) × (column row 17 ≡ or_null Int (option_map y_of parts.spot))
  pub shape : HasShape (column row 18) parts.shape
