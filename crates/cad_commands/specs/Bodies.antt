-- Bodies of versions as JSON objects, by class (own profile).
use Rattle.std.specs.Prelude.{◌≡◌, codes, Option}
use Rattle.serde_json.specs.Data.{Members}
use Rattle.cad_shape.specs.declared.polygon.Region.{Region}
use Rattle.cad_versions.specs.declared.body.Body.{Body}
use Rattle.cad_versions.specs.declared.body.Class.{Class}
use Rattle.cad_versions.specs.declared.body_parts.BodyParts.{BodyParts}
use Rattle.cad_versions.specs.Class.{class_attributes, class_of}
use Rattle.cad_versions.specs.BodyParts.{parts_of}
use Rattle.cad_commands.specs.Members.{MayHave, AreOnly, member_in}
use Rattle.cad_commands.specs.Values.{IsWholeOf, IsObjectOf, IsWordsOf, IsFlagOf, IsShareOf, IsPointOf, IsShapeOf}

-- the members `shape` and `holes` say the shape
abbrev pub SaysShape : Members → Option Region → Type 0
SaysShape ms shape = IsShapeOf (member_in (codes "shape") ms) (member_in (codes "holes") ms) shape

-- each member says the part of its name, and `holes` what lies inside the shape; if a member is missing or null, that part is not there
pub record SaysParts (ms : Members) (parts : BodyParts) : Type 0 where
  pub area : MayHave IsWholeOf (codes "area") ms parts.area
  pub unit : MayHave IsObjectOf (codes "unit") ms parts.unit
  pub party : MayHave IsObjectOf (codes "party") ms parts.party
  pub share : MayHave IsShareOf (codes "share") ms parts.share
  pub required : MayHave IsFlagOf (codes "required") ms parts.required
  pub spot : MayHave IsPointOf (codes "spot") ms parts.spot
  pub name : MayHave IsWordsOf (codes "name") ms parts.name
  pub code : MayHave IsWordsOf (codes "code") ms parts.code
  pub label : MayHave IsWordsOf (codes "label") ms parts.label
  pub shape : SaysShape ms parts.shape

-- the object says the parts of a body of the class, and has no members other than those of the class
unfoldable pub SaysBody : Members → Class → Body → Type 0
SaysBody ms class body = (class_of body ≡ class) × SaysParts ms (parts_of body) × AreOnly (class_attributes class) ms
