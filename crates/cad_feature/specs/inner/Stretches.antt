-- The positions of versions, by the numbers of their objects (own profile).
use Rattle.std.specs.Prelude.{ℕ, ◌<◌, ◌≤◌, ◌/◌, List, length, slice_index_or}
use Rattle.std.specs.List.{AllWithin}
use Rattle.cad_versions.specs.Objects.{object_number}
use Rattle.cad_versions.specs.VersionedObject.{VersionedObject}

abbrev pub number_in : VersionedObject → ℕ
number_in v = object_number v.object

-- numbers fall into stretches of one width, which are counted from 0
abbrev pub stretch_in : ℕ → VersionedObject → ℕ
stretch_in width v = number_in v / width

-- of the first `upto` versions, those before the start are of earlier stretches, and those from it on are of this one or of later ones
pub record PartAt (width : ℕ) (vs : List VersionedObject) (upto stretch start : ℕ) : Type 0 where
  pub within : start < upto
  pub before : AllWithin (λ v. stretch_in width v < stretch) vs 0 start
  pub after : AllWithin (λ v. stretch ≤ stretch_in width v) vs start upto

-- the starts of the first stretches, in their order
abbrev pub AreStarts : ℕ → List VersionedObject → ℕ → List ℕ → Type 0
AreStarts width vs upto starts = (k d : ℕ) → k < length starts → PartAt width vs upto k (slice_index_or starts k d)
