-- What is read from the parts of a literal.
use Rattle.std.specs.Prelude.{◌≡◌, ◌<ℤ◌, ℕ, ℤ, false, List, [], ◌∷◌, Option, Some, None, Result, Ok, Err, MatchResult, MatchOption, Vec, map, string_bytes}
use Rattle.std.specs.declared.alloc.Global.{Global}
use Rattle.cad_day.specs.Days.{number_of}
use Rattle.cad_schema.specs.declared.property.PropertyKind.{PropertyKind}
use Rattle.cad_schema.specs.declared.property.PropertyKind.TheVariants as property
use Rattle.cad_schema.specs.Attributes.{Named}
use Rattle.cad_shape.specs.Coordinates.{IsCoordinate}
use Rattle.cad_shape.specs.declared.ring.Ring.{Ring as Outline}
use Rattle.cad_shape.specs.declared.polygon.Region.{Region}
use Rattle.cad_shape.specs.Polygons.{IsRegion}
use Rattle.cad_shape.specs.RegionRings.{rings_of as region_rings}
use Rattle.cql_tree.specs.declared.expression.Number.{Number}
use Rattle.cql_tree.specs.declared.expression.Corner.{Corner}
use Rattle.cql_tree.specs.declared.expression.Ring.{Ring}
use Rattle.cql_tree.specs.Syntax.{Syntax, Parts, none, part, parts_of, node, ring_op}
use Rattle.cql_tree.specs.Views.{numbers_of, rings_of}
use Rattle.cql_types.specs.declared.fault.Fault.{Fault}
use Rattle.cql_types.specs.declared.fault.TypeFault.{TypeFault}
use Rattle.cql_types.specs.declared.filter.DayTerm.TheVariants as day
use Rattle.cql_types.specs.declared.filter.EndTerm.{EndTerm}
use Rattle.cql_types.specs.declared.filter.EndTerm.TheVariants as end
use Rattle.cql_types.specs.declared.literal.Position.{Position}
use Rattle.cql_types.specs.Kinds.{Kind, is_end, Has}
use Rattle.cql_types.specs.Literals.{AreNumbers, outline_of}
use Rattle.cql_types.specs.Means.{IsEnd}
use Rattle.cql_types.specs.Numbers.{written}
use Rattle.cql_types.specs.Contract.{ForFault, IsFirst, IsFirstIn}

-- an end of an INTERVAL, or None if its kind is not that of an end
abbrev pub IsEndRead : List Named → Syntax → Option EndTerm → Type 0
IsEndRead s t None = (k : Kind) × Has s t k × (is_end k ≡ false)
IsEndRead s t (Some e) = IsEnd s t e

abbrev pub ReadsEnd : List Named → Syntax → Result (Option EndTerm) TypeFault → Type 0
ReadsEnd s t r = MatchResult r (IsEndRead s t) (ForFault (IsFirst s t))

abbrev pub property_end : ℕ → PropertyKind → Option EndTerm
property_end i property.Day = Some (end.Day (day.Property i))
property_end i _ = None

-- the day of a literal end
abbrev pub end_day : EndTerm → Option ℤ
end_day end.Open = None
end_day (end.Day (day.Constant d)) = Some (number_of d)
end_day (end.Day (day.Property i)) = None

-- the first fault of numbers, for any collection
abbrev pub IsFirstNumber : Parts → Fault → Type 0
IsFirstNumber ps f = (s : List Named) → IsFirstIn s ps f

abbrev pub ReadsNumber : Number → Result ℤ TypeFault → Type 0
ReadsNumber m r = MatchResult r (λ z. written m.is_negative (string_bytes m.digits) ≡ Ok z)
    (ForFault (λ f. (f.place ≡ m.place) × (written m.is_negative (string_bytes m.digits) ≡ Err f.cause)))

abbrev pub ReadsPosition : Corner → Result Position TypeFault → Type 0
ReadsPosition c r = MatchResult r (λ p. AreNumbers (parts_of (numbers_of (c ∷ []))) (p.x ∷ p.y ∷ []))
    (ForFault (IsFirstNumber (parts_of (numbers_of (c ∷ [])))))

-- x and y of each position
abbrev pub positions_of : List Position → List ℤ
positions_of [] = []
positions_of (p ∷ ps) = p.x ∷ p.y ∷ positions_of ps

abbrev pub ReadsLine : List Corner → Result (Vec Position Global) TypeFault → Type 0
ReadsLine cs r = MatchResult r (λ ps. AreNumbers (parts_of (numbers_of cs)) (positions_of ps.items)) (ForFault (IsFirstNumber (parts_of (numbers_of cs))))

-- the parts are lines, of these numbers
pub data AreLines : Parts → List (List ℤ) → Type 0 where
  no_line : AreLines none []
  one_line : {ps ts : Parts} {zs : List ℤ} {lines : List (List ℤ)} → AreNumbers ps zs → AreLines ts lines → AreLines (part (node ring_op ps) ts) (zs ∷ lines)

abbrev pub lines_of : List (Vec Position Global) → List (List ℤ)
lines_of lines = map (λ line. positions_of line.items) lines

-- the numbers of the line along each ring
abbrev pub outlines_of : List Outline → List (List ℤ)
outlines_of rings = map outline_of rings

-- the region inside rings along the lines, or there is no such region
abbrev pub IsRegionAlong : List (List ℤ) → Option Region → Type 0
IsRegionAlong lines region = MatchOption region ((rings : List Outline) → outlines_of rings ≡ lines → ¬ IsRegion rings)
    (λ area. outlines_of (region_rings area) ≡ lines)

abbrev pub ReadsLines : List Ring → Result (Vec (Vec Position Global) Global) TypeFault → Type 0
ReadsLines rs r = MatchResult r (λ lines. AreLines (parts_of (rings_of rs)) (lines_of lines.items)) (ForFault (IsFirstNumber (parts_of (rings_of rs))))

-- two corners of a box, the least first, with width and height between them
pub record IsFrame (low high : Position) : Type 0 where
  pub low_in_range : IsCoordinate low.x × IsCoordinate low.y
  pub high_in_range : IsCoordinate high.x × IsCoordinate high.y
  pub width : low.x <ℤ high.x
  pub height : low.y <ℤ high.y
