-- How often a reader is read, and how often a write of a writer fails (own profile).
use Rattle.std.specs.Prelude.{◌≡◌, ◌==◌, ℕ, ◌+◌, ◌≤◌, ◌<◌, Bool, true, false, Result, Ok, Err}

-- at most this many reads are made, and exactly this many if this holds
abbrev pub CountsReads : ℕ → Type 0 → ℕ → ℕ → Type 0
CountsReads most IsSpent before after = (after ≤ before + most) × (IsSpent → after ≡ before + most)

-- a write failed, or took nothing
abbrev pub is_failure : {E : Type 0} → Result ℕ E → Bool
is_failure (Ok count) = count == 0
is_failure (Err error) = true

-- a failure is counted, and nothing else is
pub record CountsFailure (failed : Bool) (before after : ℕ) : Type 0 where
  pub grows : before ≤ after
  pub counted : failed ≡ true → 0 < after
  pub kept : failed ≡ false → after ≡ before
