-- The versions as they are stored: each with the revision that entered it and the one that closed it (own profile).
use Rattle.std.specs.Prelude.{ℕ, ◌≡◌, ◌+◌, ◌≤ℤ◌, pos, int_le, nat_le, Bool, true, false, if◌then◌else◌, List, [], ◌∷◌, ◌++◌, map, filter, Option, Some, None}
use Rattle.cad_day.specs.declared.day.Day.{Day}
use Rattle.cad_day.specs.Days.{number_of}
use Rattle.cad_versions.specs.declared.object_id.ObjectId.{ObjectId}
use Rattle.cad_versions.specs.declared.command.Command.{Command}
use Rattle.cad_versions.specs.declared.command.Command.TheVariants.{Enter, Amend, Retire}
use Rattle.cad_versions.specs.VersionedObject.{VersionedObject}
use Rattle.cad_day.specs.DayBefore.{day_before}
use Rattle.cad_versions.specs.Versions.{is_open_of, closed_on, begun, next_number}

pub record Entry : Type 0 where
  pub version : VersionedObject
  pub entered : ℕ
  pub closed : Option ℕ

abbrev pub version_in : Entry → VersionedObject
version_in entry = entry.version

abbrev pub entered_at : ℕ → VersionedObject → Entry
entered_at revision v = record { version = v; entered = revision; closed = None }

abbrev pub close_entry : ObjectId → Day → ℕ → Entry → Entry
close_entry object day revision entry =
    if is_open_of object entry.version then record { version = closed_on day entry.version; entered = entry.entered; closed = Some revision } else entry

-- it can be closed on this day, if it is an open version of the object
abbrev pub ClosesInTime : ObjectId → Day → Entry → Type 0
ClosesInTime object day entry = is_open_of object (version_in entry) ≡ true → number_of entry.version.first ≤ℤ number_of day

-- the entries after the command that makes this revision
abbrev pub entries_after : ℕ → List Entry → Command → List Entry
entries_after revision entries (Enter object first body) = entries ++ entered_at revision (begun object 1 first body) ∷ []
entries_after revision entries (Amend object first body) =
    map (close_entry object (day_before first) revision) entries ++ entered_at revision (begun object (next_number object (map version_in entries)) first body) ∷ []
entries_after revision entries (Retire object last) = map (close_entry object last revision) entries

-- the revisions count up from this one
abbrev pub entries_from : ℕ → List Entry → List Command → List Entry
entries_from revision entries [] = entries
entries_from revision entries (c ∷ cs) = entries_from (revision + 1) (entries_after (revision + 1) entries c) cs

abbrev pub entries_of : List Command → List Entry
entries_of commands = entries_from 0 [] commands

-- the entries up to a revision
abbrev pub entries_at : ℕ → List Entry → List Entry
entries_at revision entries = filter (λ (entry : Entry). int_le (pos entry.entered) (pos revision)) entries

abbrev pub is_closed_by : ℕ → Option ℕ → Bool
is_closed_by revision None = false
is_closed_by revision (Some closed) = nat_le closed revision

-- the version as it was at a revision: a closing of a later one is not seen
abbrev pub seen_at : ℕ → Entry → VersionedObject
seen_at revision entry = record entry.version { last = if is_closed_by revision entry.closed then entry.version.last else None }
