-- What holds of every object's versions (ISO 19152:2012, VersionedObject: lifespans of one object follow one another).
use Rattle.std.specs.Prelude.{◌≡◌, ℕ, ◌+◌, pos, ◌-ℤ◌, ◌≤ℤ◌, if◌then◌else◌, List, [], ◌∷◌, Option, Some, None}
use Rattle.std.specs.Ordering.{int_eq}
use Rattle.cad_day.specs.declared.day.Day.{Day}
use Rattle.cad_day.specs.Days.{number_of}
use Rattle.cad_versions.specs.declared.object_id.ObjectId.{ObjectId}
use Rattle.cad_versions.specs.declared.command.Command.{Command}
use Rattle.cad_versions.specs.declared.command.Command.TheVariants.{Retire}
use Rattle.cad_versions.specs.Objects.{object_number}
use Rattle.cad_versions.specs.VersionedObject.{VersionedObject}

-- open, or closed on its first day or later
abbrev pub IsForward : VersionedObject → Option Day → Type 0
IsForward v None = Unit {0}
IsForward v (Some last) = number_of v.first ≤ℤ number_of last

-- closed on the very day before the next version begins
abbrev pub EndsBefore : Option Day → VersionedObject → Type 0
EndsBefore None next = ⊥
EndsBefore (Some last) next = number_of last ≡ number_of next.first -ℤ pos 1

-- the numbers count up by one; each version but the last is closed on the very day before the next one begins, so only the last may be
-- open, or closed with no later version
abbrev pub IsHistory : ℕ → List VersionedObject → Type 0
IsHistory number [] = Unit {0}
IsHistory number (v ∷ []) = (v.number ≡ number) × IsForward v v.last
IsHistory number (v ∷ (w ∷ vs)) = (v.number ≡ number) × IsForward v v.last × EndsBefore v.last w × IsHistory (number + 1) (w ∷ vs)

-- the day on which the last of these versions ends, if it ends
abbrev pub last_day : List VersionedObject → Option Day
last_day [] = None
last_day (v ∷ []) = v.last
last_day (v ∷ (w ∷ vs)) = last_day (w ∷ vs)

-- the day on which a command retires the object, if one does
abbrev pub retired_on : ObjectId → List Command → Option Day
retired_on object [] = None
retired_on object (Retire other last ∷ cs) = if int_eq (pos (object_number other)) (pos (object_number object)) then Some last else retired_on object cs
retired_on object (c ∷ cs) = retired_on object cs
