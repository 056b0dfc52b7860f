-- The numbers of objects (own profile).
use Rattle.std.specs.Prelude.{ℕ, ◌≤◌}
use Rattle.cad_versions.specs.declared.object_id.ObjectId.{ObjectId}
use Rattle.cad_versions.specs.Limits.{most_number}

-- an object is named by a number from 1 to 2^31 - 1
abbrev pub IsObjectNumber : ℕ → Type 0
IsObjectNumber number = (1 ≤ number) × (number ≤ most_number)

abbrev pub object_number : ObjectId → ℕ
object_number object = object.number
