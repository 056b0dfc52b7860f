-- Each value is said by the JSON value that is made of it.
use Rattle.std.proofs.Common.{◌≡◌, ℕ, ◌^◌, ◌<◌, ℤ, pos, negsuc, List, [], ◌∷◌, length, Option, Some, None, refl, ap, arith, nat_lt, true, cond}
use Rattle.std.specs.Option.{ForSome}
use Rattle.std.proofs.lemmas.Bool.Decides.{nat_tests}
use Rattle.serde_json.specs.Data.{Data}
use Rattle.cad_shape.specs.declared.point.Point.{Point}
use Rattle.cad_shape.specs.declared.ring.Ring.{Ring}
use Rattle.cad_shape.specs.Coordinates.{IsCoordinate}
use Rattle.cad_shape.specs.declared.polygon.Region.{Region}
use Rattle.cad_shape.specs.Rings.{corners_of}
use Rattle.cad_shape.specs.RegionRings.{rings_of}
use Rattle.cad_versions.specs.declared.object_id.ObjectId.{ObjectId}
use Rattle.cad_versions.specs.declared.share.Share.{Share}
use Rattle.cad_versions.specs.declared.words.Words.{Words}
use Rattle.cad_commands.specs.Values.{IsWholeOf, IsObjectOf, IsWordsOf, IsShareOf, IsIntegerOf, IsPointOf, ArePointsOf, IsRingOf, AreRingsOf, IsShapeOf}
use Rattle.cad_commands.specs.Members.{SaysAny, unless_null}
use Rattle.cad_commands.specs.Writing.{whole_json, integer_json, object_json, words_json, share_json, point_json, points_json, ring_json, rings_json, outline_in, holes_in, outline_json, holes_json, or_null}

low : (n : ℕ) → n < 2 ^ 63 → nat_lt n (2 ^ 63) ≡ true
low n h = grind (arith, nat_tests)

-- a whole number that 64 bits hold
integer_said : (n : ℤ) → IsCoordinate n → IsIntegerOf (integer_json n) n
integer_said (pos n) h = ap (λ b. cond b (Some (pos n)) None) (low n (coordinate_low n h))
  where
    coordinate_low : (n : ℕ) → IsCoordinate (pos n) → n < 2 ^ 63
    coordinate_low n h = grind (arith, h.0, h.1)
integer_said (negsuc n) h = refl

pub point_said : (point : Point) → IsPointOf (point_json point) point
point_said point = (integer_json point.x, integer_json point.y, refl, integer_said point.x point.x_in_range, integer_said point.y point.y_in_range)

points_said : (points : List Point) → ArePointsOf (points_json points) points
points_said [] = tt
points_said (point ∷ points) = (point_said point, points_said points)

ring_said : (ring : Ring) → IsRingOf (ring_json ring) ring
ring_said ring = (points_json (corners_of ring), refl, points_said (corners_of ring))

rings_said : (rings : List Ring) → AreRingsOf (rings_json rings) rings
rings_said [] = tt
rings_said (ring ∷ rings) = (ring_said ring, rings_said rings)

region_said : (region : Region) (rings : List Ring) → rings_of region ≡ rings → 0 < length rings → IsShapeOf (unless_null (outline_in rings)) (unless_null (holes_in rings)) (Some region)
region_said region [] is some = absurd (omega arith)
region_said region (outer ∷ holes) is some = (outer, holes, is, ring_said outer, (rings_json holes, refl, rings_said holes))

pub shape_said : (shape : Option Region) → IsShapeOf (unless_null (or_null outline_json shape)) (unless_null (or_null holes_json shape)) shape
shape_said None = tt
shape_said (Some region) = region_said region (rings_of region) refl region.some

pub share_said : (share : Share) → IsShareOf (share_json share) share
share_said share = (whole_json share.num, whole_json share.den, refl, (refl, omega (arith, share.within, share.small)), (refl, omega (arith, share.small)))

-- a value that may be missing
pub any_said : {X : Type 0} (Says : Data → X → Type 0) (json_of : X → Data) → ((x : X) → SaysAny Says (unless_null (json_of x)) (Some x)) → (o : Option X) → SaysAny Says (unless_null (or_null json_of o)) o
any_said Says json_of said None = tt
any_said Says json_of said (Some x) = said x

pub any_words : (o : Option Words) → SaysAny IsWordsOf (unless_null (or_null words_json o)) o
any_words o = any_said IsWordsOf words_json (λ w. refl) o

pub any_object : (o : Option ObjectId) → SaysAny IsObjectOf (unless_null (or_null object_json o)) o
any_object o = any_said IsObjectOf object_json (λ object. refl) o

pub any_share : (o : Option Share) → SaysAny IsShareOf (unless_null (or_null share_json o)) o
any_share o = any_said IsShareOf share_json share_said o

pub any_area : (o : Option ℕ) → ForSome o (λ n. n < 2 ^ 32) → SaysAny IsWholeOf (unless_null (or_null whole_json o)) o
any_area None small = tt
any_area (Some n) small = (refl, small n refl)
