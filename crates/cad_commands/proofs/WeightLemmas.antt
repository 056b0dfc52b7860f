-- How long the text of a command is at most.
use Rattle.std.proofs.Common.{◌≡◌, ℕ, ◌+◌, ◌*◌, ◌≤◌, Bool, List, [], ◌∷◌, length, length-append, Option, Some, None, refl, arith}
use Rattle.serde_json.specs.Data.{Data}
use Rattle.serde_json.specs.Data as json
use Rattle.cad_day.specs.declared.day.Day.{Day}
use Rattle.cad_shape.specs.declared.point.Point.{Point}
use Rattle.cad_shape.specs.declared.ring.Ring.{Ring}
use Rattle.cad_shape.specs.declared.polygon.Region.{Region}
use Rattle.cad_shape.specs.Polygons.{rings_corners}
use Rattle.cad_shape.specs.Rings.{corners_of}
use Rattle.cad_shape.specs.RegionRings.{rings_of}
use Rattle.cad_versions.specs.declared.object_id.ObjectId.{ObjectId}
use Rattle.cad_versions.specs.declared.share.Share.{Share}
use Rattle.cad_versions.specs.declared.words.Words.{Words}
use Rattle.cad_versions.specs.declared.body.Body.{Body}
use Rattle.cad_versions.specs.declared.body_parts.BodyParts.{BodyParts}
use Rattle.cad_versions.specs.BodyParts.{parts_of}
use Rattle.cad_versions.specs.Class.{class_attributes, class_of}
use Rattle.cad_commands.specs.Writing.{whole_json, object_json, words_json, share_json, point_json, points_json, rings_json, outline_in, holes_in, outline_json, holes_json, or_null, part_members, body_members, beginning_members}
use Rattle.cad_commands.proofs.ChosenLemmas.{chosen_weight}
use Rattle.cad_commands.proofs.LengthLemmas.{weight, items_weight, members_weight}
use Rattle.cad_commands.proofs.NameLemmas.{class_length}

-- ---- shapes

points_weight : (points : List Point) → items_weight (points_json points) ≡ 1 + 45 * length points
points_weight [] = refl
points_weight (point ∷ points) = omega (arith, points_weight points)

rings_weight : (rings : List Ring) → items_weight (rings_json rings) ≡ 1 + 3 * length rings + 45 * length (rings_corners rings)
rings_weight [] = refl
rings_weight (ring ∷ rings) = omega (arith, points_weight (corners_of ring), rings_weight rings, length-append (corners_of ring) (rings_corners rings))

shape_weight : (rings : List Ring) → length rings ≤ 100 → length (rings_corners rings) ≤ 1000 → weight (outline_in rings) + weight (holes_in rings) ≤ 46000
shape_weight [] few low = omega arith
shape_weight (outer ∷ holes) few low = omega (arith, few, low, points_weight (corners_of outer), rings_weight holes, length-append (corners_of outer) (rings_corners holes))

any_shape_weight : (o : Option Region) → weight (or_null outline_json o) + weight (or_null holes_json o) ≤ 46000
any_shape_weight None = omega arith
any_shape_weight (Some region) = shape_weight (rings_of region) region.not_too_many_rings region.not_too_many_corners

-- ---- other parts

any_weight : {X : Type 0} (json_of : X → Data) (n : ℕ) → 4 ≤ n → ((x : X) → weight (json_of x) ≤ n) → (o : Option X) → weight (or_null json_of o) ≤ n
any_weight json_of n room low None = omega (arith, room)
any_weight json_of n room low (Some x) = low x

words_weight : (o : Option Words) → weight (or_null words_json o) ≤ 1202
words_weight o = any_weight words_json 1202 (omega arith) (λ words. omega (arith, words.few)) o

object_weight : (o : Option ObjectId) → weight (or_null object_json o) ≤ 20
object_weight o = any_weight object_json 20 (omega arith) (λ object. omega arith) o

share_weight : (o : Option Share) → weight (or_null share_json o) ≤ 44
share_weight o = any_weight share_json 44 (omega arith) (λ share. omega arith) o

spot_weight : (o : Option Point) → weight (or_null point_json o) ≤ 44
spot_weight o = any_weight point_json 44 (omega arith) (λ point. omega arith) o

area_weight : (o : Option ℕ) → weight (or_null whole_json o) ≤ 20
area_weight o = any_weight whole_json 20 (omega arith) (λ n. omega arith) o

flag_weight : (o : Option Bool) → weight (or_null json.boolean o) ≤ 5
flag_weight o = any_weight json.boolean 5 (omega arith) (λ flag. omega arith) o

-- ---- bodies and commands

parts_weight : (parts : BodyParts) → members_weight (part_members parts) ≤ 60000
parts_weight parts =
    omega (arith, area_weight parts.area, words_weight parts.code, words_weight parts.label, words_weight parts.name, object_weight parts.party, flag_weight parts.required, any_shape_weight parts.shape, share_weight parts.share, spot_weight parts.spot, object_weight parts.unit)

body_weight : (b : Body) → members_weight (body_members b) ≤ 60000
body_weight b = omega (arith, chosen_weight (class_attributes (class_of b)) (part_members (parts_of b)), parts_weight (parts_of b))

pub beginning_weight : (operation : List ℕ) (object : ObjectId) (first : Day) (b : Body) → length operation ≤ 5 → weight (json.object (beginning_members operation object first b)) ≤ 65536
beginning_weight operation object first b h = omega (arith, h, class_length (class_of b), body_weight b)
