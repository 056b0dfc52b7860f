-- Places of values among marks, and values of which the places are marked (own profile). Each value has four places by one hash of it: double hashing, as in Kirsch and Mitzenmacher, "Less hashing, same performance". Values with the same places are not told apart.
use Rattle.std.specs.Prelude.{ℕ, ℤ, pos, ◌<◌, ◌+◌, ◌*◌, ◌/◌, ◌%◌, unsigned_abs, List, Option, Some, None}
use Rattle.std.specs.Int.{int_rem_euclid}
use Rattle.cad_feature.specs.Values.{Datum, a_text, a_whole}
use Rattle.cql_text.specs.Hashes.{hash_of_text}
use Rattle.cad_marks.specs.Marked.{IsMarked}
use Rattle.cad_marks.specs.declared.marks.Marks.{Marks}
use Rattle.cad_extents.specs.declared.places.Places.{Places}
use Rattle.cad_extents.specs.declared.noted.NotedValues.{NotedValues}
use Rattle.cad_extents.specs.declared.noted.NotedValues.TheVariants as noted

-- from a first place on, by equal steps
abbrev pub places_from : ℕ → ℕ → Places
places_from first step = record { first = first; second = (first + step) % 65536; third = (first + 2 * step) % 65536; fourth = (first + 3 * step) % 65536 }

-- by a hash
abbrev pub places_by : ℕ → Places
places_by hash = places_from (hash % 65536) (hash / 65536)

abbrev pub residue : ℤ → ℕ
residue n = unsigned_abs (int_rem_euclid n (pos 4294967291))

abbrev pub hash_of_whole : ℤ → ℕ
hash_of_whole n = (residue n * 16777619) % 4294967291

abbrev pub places_of_whole : ℤ → Places
places_of_whole n = places_by (hash_of_whole n)

abbrev pub places_of_text : List ℕ → Places
places_of_text t = places_by (hash_of_text t)

-- whole numbers and texts have places
abbrev pub places_of : Datum → Option Places
places_of (a_whole n) = Some (places_of_whole n)
places_of (a_text t) = Some (places_of_text t)
places_of d = None

-- the places are among the marks
abbrev pub AreWithin : Places → Type 0
AreWithin p = (p.first < 65536) × (p.second < 65536) × (p.third < 65536) × (p.fourth < 65536)

-- all four are marked
abbrev pub AreMarkedAt : Marks 1024 → Places → Type 0
AreMarkedAt m p = IsMarked m p.first × IsMarked m p.second × IsMarked m p.third × IsMarked m p.fourth

-- if there are places, they are marked
abbrev pub AreMarkedIfAny : Marks 1024 → Option Places → Type 0
AreMarkedIfAny m None = Unit {0}
AreMarkedIfAny m (Some p) = AreMarkedAt m p

-- a value with these places is one of those; or it has none
abbrev pub IsNotedAt : NotedValues → Option Places → Type 0
IsNotedAt noted.Empty None = Unit {0}
IsNotedAt noted.Empty (Some p) = ⊥
IsNotedAt (noted.Marked marks) p = AreMarkedIfAny marks.value p
IsNotedAt noted.Any p = Unit {0}

abbrev pub IsNoted : NotedValues → Datum → Type 0
IsNoted values d = IsNotedAt values (places_of d)
