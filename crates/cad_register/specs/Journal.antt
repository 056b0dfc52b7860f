-- The commands that made a register, as its entries show them (own profile).
use Rattle.std.specs.Prelude.{ℕ, zero, suc, ◌+◌, ◌==◌, Bool, false, if◌then◌else◌, List, [], ◌∷◌, Option, Some, None, option_map}
use Rattle.cad_versions.specs.declared.command.Command.{Command}
use Rattle.cad_versions.specs.declared.command.Command.TheVariants.{Enter, Amend, Retire}
use Rattle.cad_versions.specs.VersionedObject.{VersionedObject}
use Rattle.cad_versions.specs.Entries.{Entry}

-- its first version enters an object, each later one amends it
abbrev pub beginning : VersionedObject → Command
beginning v = if v.number == 1 then Enter v.object v.first v.body else Amend v.object v.first v.body

-- a last day retires it
abbrev pub ending : VersionedObject → Option Command
ending v = option_map (λ last. Retire v.object last) v.last

abbrev pub is_at : ℕ → Option ℕ → Bool
is_at revision None = false
is_at revision (Some other) = other == revision

-- the command of the revision, if that revision entered the entry
abbrev pub begun_at : ℕ → Entry → Option Command
begun_at revision e = if e.entered == revision then Some (beginning e.version) else None

-- and if it closed the entry
abbrev pub ended_at : ℕ → Entry → Option Command
ended_at revision e = if is_at revision e.closed then ending e.version else None

abbrev pub or_next : Option Command → Option Command → Option Command
or_next None next = next
or_next (Some c) next = Some c

-- that of the first entry that has one
abbrev pub first_given : (Entry → Option Command) → List Entry → Option Command
first_given command_of [] = None
first_given command_of (e ∷ es) = or_next (command_of e) (first_given command_of es)

-- the command of a revision: the one that entered a version then, or else the one that closed one
abbrev pub command_at : ℕ → List Entry → Option Command
command_at revision entries = or_next (first_given (begun_at revision) entries) (first_given (ended_at revision) entries)

-- those of this many revisions after this one
abbrev pub commands_behind : ℕ → ℕ → List Entry → List (Option Command)
commands_behind revision zero entries = []
commands_behind revision (suc count) entries = command_at (revision + 1) entries ∷ commands_behind (revision + 1) count entries
