-- Boxes with sides along the axes.
use Rattle.std.specs.Prelude.{ℤ, ◌≡◌, ◌≤ℤ◌, ◌⊎◌}
use Rattle.cad_shape.specs.Coordinates.{IsCoordinate}

-- the lower and the upper edge of a box, which may be one (OGC 17-069r4, 7.15.3, `bbox`)
abbrev pub IsExtent : ℤ → ℤ → Type 0
IsExtent low high = IsCoordinate low × IsCoordinate high × (low ≤ℤ high)

-- m is the lesser of a and b
abbrev pub IsLower : ℤ → ℤ → ℤ → Type 0
IsLower a b m = (m ≤ℤ a) × (m ≤ℤ b) × ((m ≡ a) ⊎ (m ≡ b))

-- m is the greater of a and b
abbrev pub IsUpper : ℤ → ℤ → ℤ → Type 0
IsUpper a b m = (a ≤ℤ m) × (b ≤ℤ m) × ((m ≡ a) ⊎ (m ≡ b))
