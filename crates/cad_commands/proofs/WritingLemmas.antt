-- What is written of a command, as a tree and as a text.
use Rattle.std.proofs.Common.{◌≡◌, ℤ, pos, negsuc, List, [], ◌∷◌, false, map, Option, Some, None, Result, Ok, Err, IfOk, String, Global, string_bytes, refl, ap, ◌∙◌}
use Rattle.std.proofs.lemmas.Bool.{or_from}
use Rattle.serde_json.specs.Data.{Data, item}
use Rattle.serde_json.specs.Data as json
use Rattle.serde_json.specs.View.{items_of}
use Rattle.serde_json.specs.Written.{has_float, items_have_float, members_have_float, compact_text}
use Rattle.cad_shape.specs.declared.point.Point.{Point}
use Rattle.cad_shape.specs.declared.ring.Ring.{Ring}
use Rattle.cad_shape.specs.Rings.{corners_of}
use Rattle.cad_shape.specs.RegionRings.{rings_of}
use Rattle.cad_versions.specs.declared.object_id.ObjectId.{ObjectId}
use Rattle.cad_versions.specs.declared.words.Words.{Words}
use Rattle.cad_versions.specs.declared.body.Body.{Body}
use Rattle.cad_versions.specs.declared.body_parts.BodyParts.{BodyParts}
use Rattle.cad_versions.specs.declared.command.Command.{Command}
use Rattle.cad_versions.specs.declared.command.Command.TheVariants.{Enter, Amend, Retire}
use Rattle.cad_versions.specs.BodyParts.{parts_of}
use Rattle.cad_versions.specs.Class.{class_attributes, class_of}
use Rattle.cad_commands.specs.Writing.{whole_json, integer_json, object_json, words_json, share_json, point_json, points_json, ring_json, rings_json, outline_in, holes_in, outline_json, holes_json, or_null, part_members, body_members, command_members, command_text}
use Rattle.cad_commands.proofs.ChosenLemmas.{chosen_no_float}

pub points_listed : (points : List Point) → items_of (map point_json points) ≡ points_json points
points_listed [] = refl
points_listed (point ∷ points) = ap (item (point_json point)) (points_listed points)

pub rings_listed : (rings : List Ring) → items_of (map ring_json rings) ≡ rings_json rings
rings_listed [] = refl
rings_listed (ring ∷ rings) = ap (item (ring_json ring)) (rings_listed rings)

-- ---- what is written has no float

integer_no_float : (n : ℤ) → has_float (integer_json n) ≡ false
integer_no_float (pos n) = refl
integer_no_float (negsuc n) = refl

point_no_float : (point : Point) → has_float (point_json point) ≡ false
point_no_float point = or_from (has_float (integer_json point.x)) _ (integer_no_float point.x) (or_from (has_float (integer_json point.y)) _ (integer_no_float point.y) refl)

points_no_float : (points : List Point) → items_have_float (points_json points) ≡ false
points_no_float [] = refl
points_no_float (point ∷ points) = or_from (has_float (point_json point)) _ (point_no_float point) (points_no_float points)

rings_no_float : (rings : List Ring) → items_have_float (rings_json rings) ≡ false
rings_no_float [] = refl
rings_no_float (ring ∷ rings) = or_from (has_float (ring_json ring)) _ (points_no_float (corners_of ring)) (rings_no_float rings)

outline_no_float : (rings : List Ring) → has_float (outline_in rings) ≡ false
outline_no_float [] = refl
outline_no_float (outer ∷ holes) = points_no_float (corners_of outer)

holes_no_float : (rings : List Ring) → has_float (holes_in rings) ≡ false
holes_no_float [] = refl
holes_no_float (outer ∷ holes) = rings_no_float holes

any_no_float : {X : Type 0} (json_of : X → Data) → ((x : X) → has_float (json_of x) ≡ false) → (o : Option X) → has_float (or_null json_of o) ≡ false
any_no_float json_of none None = refl
any_no_float json_of none (Some x) = none x

words_no_float : (o : Option Words) → has_float (or_null words_json o) ≡ false
words_no_float o = any_no_float words_json (λ w. refl) o

object_no_float : (o : Option ObjectId) → has_float (or_null object_json o) ≡ false
object_no_float o = any_no_float object_json (λ x. refl) o

parts_no_float : (parts : BodyParts) → members_have_float (part_members parts) ≡ false
parts_no_float parts =
    or_from (has_float (or_null whole_json parts.area)) _ (any_no_float whole_json (λ n. refl) parts.area)
    (or_from (has_float (or_null words_json parts.code)) _ (words_no_float parts.code)
    (or_from (has_float (or_null holes_json parts.shape)) _ (any_no_float holes_json (λ r. holes_no_float (rings_of r)) parts.shape)
    (or_from (has_float (or_null words_json parts.label)) _ (words_no_float parts.label)
    (or_from (has_float (or_null words_json parts.name)) _ (words_no_float parts.name)
    (or_from (has_float (or_null object_json parts.party)) _ (object_no_float parts.party)
    (or_from (has_float (or_null json.boolean parts.required)) _ (any_no_float json.boolean (λ b. refl) parts.required)
    (or_from (has_float (or_null outline_json parts.shape)) _ (any_no_float outline_json (λ r. outline_no_float (rings_of r)) parts.shape)
    (or_from (has_float (or_null share_json parts.share)) _ (any_no_float share_json (λ s. refl) parts.share)
    (or_from (has_float (or_null point_json parts.spot)) _ (any_no_float point_json point_no_float parts.spot)
    (or_from (has_float (or_null object_json parts.unit)) _ (object_no_float parts.unit) refl))))))))))

body_no_float : (b : Body) → members_have_float (body_members b) ≡ false
body_no_float b = chosen_no_float (class_attributes (class_of b)) (part_members (parts_of b)) (parts_no_float (parts_of b))

pub command_no_float : (c : Command) → has_float (json.object (command_members c)) ≡ false
command_no_float (Enter object first b) = or_from (members_have_float (body_members b)) _ (body_no_float b) refl
command_no_float (Amend object first b) = or_from (members_have_float (body_members b)) _ (body_no_float b) refl
command_no_float (Retire object last) = refl

-- the text that is written is the command's
pub text_written : {E : Type 0} (c : Command) (d : Data) (r : Result (String Global) E) → d ≡ json.object (command_members c) → IfOk r (λ s. has_float d ≡ false → string_bytes s ≡ compact_text d) → IfOk r (λ text. string_bytes text ≡ command_text c)
text_written c d (Ok s) is h = h (ap has_float is ∙ command_no_float c) ∙ ap compact_text is
text_written c d (Err e) is h = tt
