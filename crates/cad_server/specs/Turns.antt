-- Versions that were entered before the one before them, so that some revision shows them alone (own profile).
use Rattle.std.specs.Prelude.{ℕ, pos, ◌==◌, ◌&&◌, nat_lt, Bool, false, if◌then◌else◌, List, [], ◌∷◌, Option, Some, None, option_map}
use Rattle.cad_versions.specs.Entries.{Entry}
use Rattle.cad_versions.specs.Objects.{object_number}
use Rattle.cad_versions.specs.declared.fault.RegisterFault.{RegisterFault}
use Rattle.cad_versions.specs.declared.fault.RegisterFault.TheVariants.{Damaged}

-- the number of the object of an entry, and the revision that entered it
abbrev pub turn_of : Entry → ℕ × ℕ
turn_of entry = (object_number entry.version.object, entry.entered)

-- the entry before it is of the same object, and was entered later
abbrev pub is_early : Option (ℕ × ℕ) → Entry → Bool
is_early None entry = false
is_early (Some before) entry = before.0 == object_number entry.version.object && nat_lt entry.entered before.1

-- the first such entry
abbrev pub first_early : Option (ℕ × ℕ) → List Entry → Option Entry
first_early before [] = None
first_early before (entry ∷ entries) = if is_early before entry then Some entry else first_early (Some (turn_of entry)) entries

-- the fault that names the row of an entry
abbrev pub damage_of : Entry → RegisterFault
damage_of entry = Damaged (pos (object_number entry.version.object)) (pos entry.version.number)

-- the fault that names the first of these entries that is sound in the newest revision and damaged in an earlier one
abbrev pub earlier_damage : List Entry → Option RegisterFault
earlier_damage entries = option_map damage_of (first_early None entries)
