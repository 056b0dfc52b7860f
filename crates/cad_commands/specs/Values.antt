-- Which values a command's members say (own profile). What a value may be, its type holds.
use Rattle.std.specs.Prelude.{◌≡◌, ℕ, ℤ, ◌^◌, ◌<◌, Bool, List, [], ◌∷◌, Option, Some, None}
use Rattle.std.specs.Option.{option_and_then}
use Rattle.serde_json.specs.Data.{Data, Items, no_items, item}
use Rattle.serde_json.specs.Find.{as_bool, as_number, as_u64, as_i64, as_str, as_array}
use Rattle.cad_day.specs.declared.day.Day.{Day}
use Rattle.cad_day.specs.Days.{number_of}
use Rattle.cad_day.specs.DayTexts.{day_named}
use Rattle.cad_shape.specs.declared.point.Point.{Point}
use Rattle.cad_shape.specs.declared.ring.Ring.{Ring}
use Rattle.cad_shape.specs.declared.polygon.Region.{Region}
use Rattle.cad_shape.specs.Rings.{corners_of}
use Rattle.cad_shape.specs.RegionRings.{rings_of}
use Rattle.cad_versions.specs.declared.object_id.ObjectId.{ObjectId}
use Rattle.cad_versions.specs.declared.share.Share.{Share}
use Rattle.cad_versions.specs.declared.words.Words.{Words}
use Rattle.cad_versions.specs.Objects.{object_number}
use Rattle.cad_versions.specs.Texts.{bytes_of}
use Rattle.cad_versions.specs.Fractions.{num_of, den_of}

-- a number from 0 on, written without a fraction or an exponent
abbrev pub natural_in : Data → Option ℕ
natural_in d = option_and_then as_u64 (as_number d)

-- a number of 32 bits
abbrev pub IsWholeOf : Data → ℕ → Type 0
IsWholeOf d n = (natural_in d ≡ Some n) × (n < 2 ^ 32)

abbrev pub IsObjectOf : Data → ObjectId → Type 0
IsObjectOf d object = natural_in d ≡ Some (object_number object)

abbrev pub IsDayOf : Data → Day → Type 0
IsDayOf d day = option_and_then day_named (as_str d) ≡ Some (number_of day)

abbrev pub IsWordsOf : Data → Words → Type 0
IsWordsOf d words = as_str d ≡ Some (bytes_of words)

abbrev pub IsFlagOf : Data → Bool → Type 0
IsFlagOf d flag = as_bool d ≡ Some flag

-- the two values of a pair
abbrev pub IsPairOf : Data → Data → Data → Type 0
IsPairOf d first second = as_array d ≡ Some (item first (item second no_items))

-- a share, as [num,den]
abbrev pub IsShareOf : Data → Share → Type 0
IsShareOf d share =
    (num : Data) × (den : Data) × IsPairOf d num den × IsWholeOf num (num_of share) × IsWholeOf den (den_of share)

-- a whole number, written without a fraction or an exponent
abbrev pub IsIntegerOf : Data → ℤ → Type 0
IsIntegerOf d n = option_and_then as_i64 (as_number d) ≡ Some n

-- a point, as [x,y]
abbrev pub IsPointOf : Data → Point → Type 0
IsPointOf d point = (x : Data) × (y : Data) × IsPairOf d x y × IsIntegerOf x point.x × IsIntegerOf y point.y

abbrev pub ArePointsOf : Items → List Point → Type 0
ArePointsOf no_items [] = Unit {0}
ArePointsOf no_items (point ∷ points) = ⊥
ArePointsOf (item d ds) [] = ⊥
ArePointsOf (item d ds) (point ∷ points) = IsPointOf d point × ArePointsOf ds points

-- a ring, as the list of its corners, the first not repeated
abbrev pub IsRingOf : Data → Ring → Type 0
IsRingOf d ring =
    (ds : Items) × (as_array d ≡ Some ds) × ArePointsOf ds (corners_of ring)

abbrev pub AreRingsOf : Items → List Ring → Type 0
AreRingsOf no_items [] = Unit {0}
AreRingsOf no_items (ring ∷ rings) = ⊥
AreRingsOf (item d ds) [] = ⊥
AreRingsOf (item d ds) (ring ∷ rings) = IsRingOf d ring × AreRingsOf ds rings

-- holes, as the list of their rings
abbrev pub AreHolesOf : Data → List Ring → Type 0
AreHolesOf d holes = (ds : Items) × (as_array d ≡ Some ds) × AreRingsOf ds holes

-- if no holes are given, the shape has no holes
abbrev pub MayHaveHoles : Option Data → List Ring → Type 0
MayHaveHoles None holes = holes ≡ []
MayHaveHoles (Some d) holes = AreHolesOf d holes

-- the rings of holes that were read, if any were
abbrev pub holes_listed : Option (List Ring) → List Ring
holes_listed None = []
holes_listed (Some holes) = holes

-- a region, as its exterior boundary and its holes
abbrev pub IsRegionOf : Data → Option Data → Region → Type 0
IsRegionOf outline d region =
    (outer : Ring) × (holes : List Ring) × (rings_of region ≡ outer ∷ holes) × IsRingOf outline outer × MayHaveHoles d holes

-- a shape, if an outline is given; holes without an outline are not a shape; if neither is given, there is no shape
abbrev pub IsShapeOf : Option Data → Option Data → Option Region → Type 0
IsShapeOf None None None = Unit {0}
IsShapeOf (Some outline) holes (Some region) = IsRegionOf outline holes region
IsShapeOf outline holes shape = ⊥
