-- What the classes have each for itself: the members of their bodies.
use Rattle.std.proofs.Common.{◌≡◌, ◌^◌, ◌<◌, refl}
use Rattle.std.specs.Option.{ForSome}
use Rattle.serde_json.specs.Data.{no_members}
use Rattle.serde_json.specs.Data as json
use Rattle.cad_versions.specs.declared.body.Body.{Body}
use Rattle.cad_versions.specs.declared.body.Body.TheVariants as body
use Rattle.cad_versions.specs.declared.body.Class.{Class}
use Rattle.cad_versions.specs.declared.body.Class.TheVariants as class
use Rattle.cad_versions.specs.declared.body_parts.BodyParts.{BodyParts}
use Rattle.cad_versions.specs.BodyParts.{area_in}
use Rattle.cad_versions.specs.Class.{class_attributes, class_of}
use Rattle.cad_commands.specs.Bodies.{SaysBody}
use Rattle.cad_commands.specs.Values.{IsFlagOf, IsPointOf}
use Rattle.cad_commands.specs.Writing.{point_json, part_members, chosen, body_members}
use Rattle.cad_commands.proofs.SaidLemmas.{any_said, any_words, any_object, any_share, any_area, point_said, shape_said}
use Rattle.cad_commands.proofs.TextLemmas.{puts}

-- the members of a body say it
pub body_said : (b : Body) → ForSome (area_in b) (λ n. n < 2 ^ 32) → SaysBody (body_members b) (class_of b) b
unfolding SaysBody
body_said (body.Party name code) small = (refl, record { area = tt; unit = tt; party = tt; share = tt; required = tt; spot = tt; name = any_words name; code = refl; label = tt; shape = tt }, refl)
body_said (body.Unit name) small = (refl, record { area = tt; unit = tt; party = tt; share = tt; required = tt; spot = tt; name = any_words name; code = tt; label = tt; shape = tt }, refl)
body_said (body.Parcel unit label area shape spot) small = (
  refl,
  record { area = any_area area small; unit = refl; party = tt; share = tt; required = tt; spot = any_said IsPointOf point_json point_said spot; name = tt; code = tt; label = refl; shape = shape_said shape },
  refl,
)
body_said (body.Right unit party code share) small = (refl, record { area = tt; unit = refl; party = any_object party; share = any_share share; required = tt; spot = tt; name = tt; code = refl; label = tt; shape = tt }, refl)
body_said (body.Responsibility unit party code share) small = (refl, record { area = tt; unit = refl; party = any_object party; share = any_share share; required = tt; spot = tt; name = tt; code = refl; label = tt; shape = tt }, refl)
body_said (body.Restriction unit party code share required) small = (
  refl,
  record { area = tt; unit = refl; party = any_object party; share = any_share share; required = any_said IsFlagOf json.boolean (λ flag. refl) required; spot = tt; name = tt; code = refl; label = tt; shape = tt },
  refl,
)

-- the members of a class stand in byte order of their names
pub class_ascends : (class : Class) (parts : BodyParts) → puts (chosen (class_attributes class) (part_members parts)) no_members ≡ chosen (class_attributes class) (part_members parts)
class_ascends class.Party parts = refl
class_ascends class.Unit parts = refl
class_ascends class.Parcel parts = refl
class_ascends class.Right parts = refl
class_ascends class.Restriction parts = refl
class_ascends class.Responsibility parts = refl
