-- Boxes in requests (OGC 17-069r4, 7.15.3: parameter bbox; whole millimetres: own profile).
use Rattle.std.specs.Prelude.{ℕ, ℤ, pos, neg_ℤ, int_le, nat_le, ◌&&◌, List, drop, Option, Some, None, option_map, if◌then◌else◌}
use Rattle.std.specs.Option.{option_and_then}
use Rattle.std.specs.List.{list_all}
use Rattle.std.specs.Str.Parse.{starts_with_minus}
use Rattle.cad_shape.specs.declared.boxes.Bounds.{Bounds}
use Rattle.cad_shape.specs.Coordinates.{farthest}
use Rattle.cad_io.specs.Decimals.{number_in}
use Rattle.cad_parameters.specs.Parts.{is_byte, parted}

-- x_min, y_min, x_max, y_max
abbrev pub BoxNumbers : Type 0
BoxNumbers = ℤ × ℤ × ℤ × ℤ

abbrev pub box_numbers : Bounds → BoxNumbers
box_numbers bounds = (bounds.x_min, bounds.y_min, bounds.x_max, bounds.y_max)

-- the text before a point that has only zeros after it, or the whole text if it has no point
abbrev pub whole_part : List ℕ → Option (List ℕ × List ℕ) → Option (List ℕ)
whole_part text None = Some text
whole_part text (Some parts) = if list_all (is_byte 48) parts.1 then Some parts.0 else None

-- at most the farthest coordinate
abbrev pub within_reach : ℕ → Option ℕ
within_reach n = if nat_le n farthest then Some n else None

-- digits, then optionally a point and any number of zeros
abbrev pub magnitude_of : List ℕ → Option ℕ
magnitude_of text = option_and_then within_reach (option_and_then number_in (whole_part text (parted 46 text)))

-- the same after an optional minus
abbrev pub coordinate_of : List ℕ → Option ℤ
coordinate_of text =
    if starts_with_minus text then option_map (λ n. neg_ℤ (pos n)) (magnitude_of (drop 1 text)) else option_map pos (magnitude_of text)

-- the lower edges are not above the upper ones
abbrev pub unless_turned : BoxNumbers → Option BoxNumbers
unless_turned edges = if int_le edges.0 edges.2 && int_le edges.1 edges.3 then Some edges else None

abbrev pub four_numbers : List ℕ → List ℕ → List ℕ → List ℕ → Option BoxNumbers
four_numbers a b c d =
    option_and_then (λ x_min. option_and_then (λ y_min. option_and_then (λ x_max. option_and_then (λ y_max.
    unless_turned (x_min, y_min, x_max, y_max))
    (coordinate_of d)) (coordinate_of c)) (coordinate_of b)) (coordinate_of a)

-- four numbers with commas between them
abbrev pub box_of : List ℕ → Option BoxNumbers
box_of text =
    option_and_then (λ first. option_and_then (λ second. option_and_then (λ third.
    four_numbers first.0 second.0 third.0 third.1)
    (parted 44 second.1)) (parted 44 first.1)) (parted 44 text)
