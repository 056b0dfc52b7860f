-- The ten parts of a body, each there only if the class has it (ISO 19152:2012, attributes of the classes).
use Rattle.std.specs.Prelude.{◌≡◌, ℕ, Bool, Option, Some, None}
use Rattle.std.specs.Option.{option_copied}
use Rattle.cad_shape.specs.declared.point.Point.{Point}
use Rattle.cad_shape.specs.declared.polygon.Region.{Region}
use Rattle.cad_versions.specs.declared.object_id.ObjectId.{ObjectId}
use Rattle.cad_versions.specs.declared.words.Words.{Words}
use Rattle.cad_versions.specs.declared.share.Share.{Share}
use Rattle.cad_versions.specs.declared.body.Body.{Body}
use Rattle.cad_versions.specs.declared.body.Body.TheVariants as body
use Rattle.cad_versions.specs.declared.body.Class.{Class}
use Rattle.cad_versions.specs.declared.body_parts.BodyParts.{BodyParts}
use Rattle.cad_versions.specs.declared.body_parts.LentParts.{LentParts}
use Rattle.cad_versions.specs.Class.{class_of}

abbrev pub no_parts : BodyParts
no_parts = record { name = None; code = None; label = None; area = None; unit = None; party = None; share = None; required = None; spot = None; shape = None }

abbrev pub parts_of : Body → BodyParts
parts_of (body.Party n c) = record no_parts { name = n; code = Some c }
parts_of (body.Unit n) = record no_parts { name = n }
parts_of (body.Parcel u l a r p) = record no_parts { unit = Some u; label = Some l; area = a; shape = r; spot = p }
parts_of (body.Right u p c s) = record no_parts { unit = Some u; party = p; code = Some c; share = s }
parts_of (body.Restriction u p c s q) = record no_parts { unit = Some u; party = p; code = Some c; share = s; required = q }
parts_of (body.Responsibility u p c s) = record no_parts { unit = Some u; party = p; code = Some c; share = s }

-- the body is of this class, and has these parts and no others
abbrev pub IsMadeOf : Class → BodyParts → Body → Type 0
IsMadeOf class parts b = (class_of b ≡ class) × (parts_of b ≡ parts)

-- the parts that are borrowed
abbrev pub lent : LentParts → BodyParts
lent p = record {
  name = option_copied p.name;
  code = option_copied p.code;
  label = option_copied p.label;
  area = p.area;
  unit = p.unit;
  party = p.party;
  share = p.share;
  required = p.required;
  spot = p.spot;
  shape = option_copied p.shape;
}

-- none of the parts that only parcels have
pub record IsNoParcel (parts : BodyParts) : Type 0 where
  pub label : parts.label ≡ None
  pub area : parts.area ≡ None
  pub spot : parts.spot ≡ None
  pub shape : parts.shape ≡ None

-- none of the parts that only rights, restrictions and responsibilities have
pub record IsNoRight (parts : BodyParts) : Type 0 where
  pub party : parts.party ≡ None
  pub share : parts.share ≡ None
  pub required : parts.required ≡ None

abbrev pub name_in : Body → Option Words
name_in b = (parts_of b).name

abbrev pub code_in : Body → Option Words
code_in b = (parts_of b).code

abbrev pub label_in : Body → Option Words
label_in b = (parts_of b).label

abbrev pub area_in : Body → Option ℕ
area_in b = (parts_of b).area

abbrev pub unit_named : Body → Option ObjectId
unit_named b = (parts_of b).unit

abbrev pub party_named : Body → Option ObjectId
party_named b = (parts_of b).party

abbrev pub share_in : Body → Option Share
share_in b = (parts_of b).share

abbrev pub required_in : Body → Option Bool
required_in b = (parts_of b).required

abbrev pub spot_in : Body → Option Point
spot_in b = (parts_of b).spot

abbrev pub shape_in : Body → Option Region
shape_in b = (parts_of b).shape
