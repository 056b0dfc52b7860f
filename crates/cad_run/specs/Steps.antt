-- What a step of a source gives, and how far the source goes on by it (own profile).
use Rattle.std.specs.Prelude.{◌≡◌, ◌≤◌, ◌<◌, ℤ, Bool, List, [], ◌∷◌, Some, filter, length}
use Rattle.cad_feature.specs.Features.{Item, identifier_of}
use Rattle.cad_run.specs.declared.stepped_source.Step.{Step}
use Rattle.cad_run.specs.declared.stepped_source.Step.TheVariants.{Found, Passed, Over}
use Rattle.cad_run.specs.Slices.{identifier, later}

-- the first feature that was left; or nothing is left up to this identifier; or nothing is left
abbrev pub IsStep : List Item → Step → List Item → Type 0
IsStep old (Found x) new = old ≡ x.now ∷ new
IsStep old (Passed last) new = (new ≡ old) × (old ≡ later (Some (identifier last)) old)
IsStep old Over new = (old ≡ []) × (new ≡ [])

-- whatever is counted, the first list has no more of it than the second
abbrev pub AreAmong : List Item → List Item → Type 0
AreAmong xs ys = (test : Item → Bool) → length (filter test xs) ≤ length (filter test ys)

-- a source goes on up to this identifier: what is ahead then was ahead before, and comes after the identifier, which not all did
pub record GoesOnTo (last : ℤ × ℤ) (old new : List Item) : Type 0 where
  pub among : AreAmong new old
  pub behind : new ≡ later (Some last) new
  pub passed : length (later (Some last) old) < length old

-- up to the feature that was found, or up to what was passed
abbrev pub GoesOn : List Item → Step → List Item → Type 0
GoesOn old (Found x) new = GoesOnTo (identifier_of x.now) old new
GoesOn old (Passed last) new = GoesOnTo (identifier last) old new
GoesOn old Over new = Unit {0}
