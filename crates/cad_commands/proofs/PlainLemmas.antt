-- The JSON values that are made of values are written as JSON texts, and nest no deeper than three.
use Rattle.std.proofs.Common.{ℕ, ◌^◌, ◌<◌, ◌≤◌, ℤ, pos, negsuc, Bool, List, [], ◌∷◌, Option, Some, None, refl, arith}
use Rattle.std.specs.Option.{ForSome}
use Rattle.std.proofs.lemmas.Str.{IsUtf8-from_ascii, IsUtf8-had}
use Rattle.std.proofs.lemmas.Fmt.{IsAscii-decimal, IsAscii-signed}
use Rattle.json.proofs.Printed.Decimals.{IsNumber-decimal, IsNumber-signed_decimal}
use Rattle.serde_json.specs.Data.{Data, depth, items_depth}
use Rattle.serde_json.specs.Data as json
use Rattle.serde_json.proofs.Numbers.{number_of-decimal, number_of-negative}
use Rattle.cad_day.specs.declared.day.Day.{Day}
use Rattle.cad_shape.specs.declared.point.Point.{Point}
use Rattle.cad_shape.specs.declared.ring.Ring.{Ring}
use Rattle.cad_shape.specs.Coordinates.{IsCoordinate}
use Rattle.cad_shape.specs.declared.polygon.Region.{Region}
use Rattle.cad_shape.specs.Rings.{corners_of}
use Rattle.cad_shape.specs.RegionRings.{rings_of}
use Rattle.cad_versions.specs.declared.object_id.ObjectId.{ObjectId}
use Rattle.cad_versions.specs.declared.share.Share.{Share}
use Rattle.cad_versions.specs.declared.words.Words.{Words}
use Rattle.cad_commands.specs.Writing.{whole_json, integer_json, object_json, words_json, share_json, point_json, points_json, ring_json, rings_json, outline_in, holes_in, outline_json, holes_json, day_json, or_null}
use Rattle.cad_commands.proofs.LinedLemmas.{decimal_lined, negative_lined}
use Rattle.cad_commands.proofs.LengthLemmas.{decimal_length, negative_length}
use Rattle.cad_commands.proofs.TextLemmas.{IsPlain, ArePlain}
use Rattle.cad_day.specs.lemmas.DayTextLemmas.{date_text_utf8}

-- ---- values

pub day_plain : (day : Day) → IsPlain (day_json day)
day_plain day = date_text_utf8 _ _ _

pub words_plain : (words : Words) → IsPlain (words_json words)
words_plain words = IsUtf8-had words.spelling words.utf8

pub whole_plain : (n : ℕ) → n < 2 ^ 64 → IsPlain (whole_json n)
whole_plain n h = record { whole = refl; reads = number_of-decimal n h; shape = IsNumber-decimal n h; utf8 = IsUtf8-from_ascii _ (IsAscii-decimal n h); lined = decimal_lined n h; short = decimal_length n h }

pub object_plain : (object : ObjectId) → IsPlain (object_json object)
object_plain object = whole_plain object.number (omega (arith, object.small))

integer_plain : (n : ℤ) → IsCoordinate n → IsPlain (integer_json n)
integer_plain (pos n) h = whole_plain n (small n h)
  where
    small : (n : ℕ) → IsCoordinate (pos n) → n < 2 ^ 64
    small n h = grind (arith, h.0, h.1)
integer_plain (negsuc n) h =
    let fits : n < 2 ^ 63 = small n h in
    record { whole = refl; reads = number_of-negative n fits; shape = IsNumber-signed_decimal (negsuc n) fits; utf8 = IsUtf8-from_ascii _ (IsAscii-signed (negsuc n) fits); lined = negative_lined n fits; short = negative_length n fits }
  where
    small : (n : ℕ) → IsCoordinate (negsuc n) → n < 2 ^ 63
    small n h = grind (arith, h.0, h.1)

pub point_plain : (point : Point) → IsPlain (point_json point)
point_plain point = (integer_plain point.x point.x_in_range, (integer_plain point.y point.y_in_range, tt))

points_plain : (points : List Point) → ArePlain (points_json points)
points_plain [] = tt
points_plain (point ∷ points) = (point_plain point, points_plain points)

rings_plain : (rings : List Ring) → ArePlain (rings_json rings)
rings_plain [] = tt
rings_plain (ring ∷ rings) = (points_plain (corners_of ring), rings_plain rings)

outline_in_plain : (rings : List Ring) → IsPlain (outline_in rings)
outline_in_plain [] = tt
outline_in_plain (outer ∷ holes) = points_plain (corners_of outer)

holes_in_plain : (rings : List Ring) → IsPlain (holes_in rings)
holes_in_plain [] = tt
holes_in_plain (outer ∷ holes) = rings_plain holes

pub outline_plain : (region : Region) → IsPlain (outline_json region)
outline_plain region = outline_in_plain (rings_of region)

pub holes_plain : (region : Region) → IsPlain (holes_json region)
holes_plain region = holes_in_plain (rings_of region)

pub share_plain : (share : Share) → IsPlain (share_json share)
share_plain share = (whole_plain share.num (omega (arith, share.within, share.small)), (whole_plain share.den (omega (arith, share.small)), tt))

pub any_plain : {X : Type 0} (json_of : X → Data) → ((x : X) → IsPlain (json_of x)) → (o : Option X) → IsPlain (or_null json_of o)
any_plain json_of plain None = tt
any_plain json_of plain (Some x) = plain x

pub area_plain : (o : Option ℕ) → ForSome o (λ n. n < 2 ^ 32) → IsPlain (or_null whole_json o)
area_plain None small = tt
area_plain (Some n) small = whole_plain n (omega (arith, small n refl))

-- ---- how deep they nest

points_depth : (points : List Point) → items_depth (points_json points) ≤ 1
points_depth [] = omega arith
points_depth (point ∷ points) = omega (arith, points_depth points)

any_depth : {X : Type 0} (json_of : X → Data) (n : ℕ) → ((x : X) → depth (json_of x) ≤ n) → (o : Option X) → depth (or_null json_of o) ≤ n
any_depth json_of n low None = omega arith
any_depth json_of n low (Some x) = low x

pub area_depth : (o : Option ℕ) → depth (or_null whole_json o) ≤ 2
area_depth o = any_depth whole_json 2 (λ n. omega arith) o

pub object_depth : (o : Option ObjectId) → depth (or_null object_json o) ≤ 2
object_depth o = any_depth object_json 2 (λ object. omega arith) o

pub share_depth : (o : Option Share) → depth (or_null share_json o) ≤ 2
share_depth o = any_depth share_json 2 (λ share. omega arith) o

ring_depth : (ring : Ring) → depth (ring_json ring) ≤ 2
ring_depth ring = omega (arith, points_depth (corners_of ring))

rings_depth : (rings : List Ring) → items_depth (rings_json rings) ≤ 2
rings_depth [] = omega arith
rings_depth (ring ∷ rings) = omega (arith, ring_depth ring, rings_depth rings)

outline_in_depth : (rings : List Ring) → depth (outline_in rings) ≤ 2
outline_in_depth [] = omega arith
outline_in_depth (outer ∷ holes) = ring_depth outer

holes_in_depth : (rings : List Ring) → depth (holes_in rings) ≤ 3
holes_in_depth [] = omega arith
holes_in_depth (outer ∷ holes) = omega (arith, rings_depth holes)

pub outline_depth : (o : Option Region) → depth (or_null outline_json o) ≤ 2
outline_depth o = any_depth outline_json 2 (λ region. outline_in_depth (rings_of region)) o

pub holes_depth : (o : Option Region) → depth (or_null holes_json o) ≤ 3
holes_depth o = any_depth holes_json 3 (λ region. holes_in_depth (rings_of region)) o

pub spot_depth : (o : Option Point) → depth (or_null point_json o) ≤ 2
spot_depth o = any_depth point_json 2 (λ point. omega arith) o

pub words_depth : (o : Option Words) → depth (or_null words_json o) ≤ 2
words_depth o = any_depth words_json 2 (λ words. omega arith) o

pub flag_depth : (o : Option Bool) → depth (or_null json.boolean o) ≤ 2
flag_depth o = any_depth json.boolean 2 (λ flag. omega arith) o
