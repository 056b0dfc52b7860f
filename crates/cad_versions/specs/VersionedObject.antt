-- One version of an object (ISO 19152:2012, VersionedObject).
use Rattle.std.specs.Prelude.{ℕ, ◌≤◌, ◌≤ℤ◌, Option}
use Rattle.std.specs.Option.{ForSome}
use Rattle.cad_day.specs.declared.day.Day.{Day}
use Rattle.cad_day.specs.Days.{number_of}
use Rattle.cad_versions.specs.declared.object_id.ObjectId.{ObjectId}
use Rattle.cad_versions.specs.declared.body.Body.{Body}
use Rattle.cad_versions.specs.Limits.{most_number}

-- what the register says of an object from a first day on, and up to a last day if there is one
pub record VersionedObject : Type 0 where
  pub object : ObjectId
  pub number : ℕ
  pub first : Day
  pub last : Option Day
  pub body : Body

-- numbers begin at 1, and no version ends before it begins
pub record IsVersion (v : VersionedObject) : Type 0 where
  pub positive : 1 ≤ v.number
  pub small : v.number ≤ most_number
  pub forward : ForSome v.last (λ last. number_of v.first ≤ℤ number_of last)
