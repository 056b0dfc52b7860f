-- Slots for commands, some of which are empty (own profile).
use Rattle.std.specs.Prelude.{ℕ, ◌+◌, Bool, if◌then◌else◌, List, [], ◌∷◌, Option, Some, None}
use Rattle.cad_versions.specs.declared.command.Command.{Command}

-- the command of each slot, or that it is empty
abbrev pub slots_in : List Command → List Bool → List (Option Command)
slots_in [] given = []
slots_in (c ∷ cs) [] = []
slots_in (c ∷ cs) (g ∷ gs) = (if g then Some c else None) ∷ slots_in cs gs

-- how many are empty
abbrev pub missing_in : List Bool → ℕ
missing_in [] = 0
missing_in (g ∷ gs) = (if g then 0 else 1) + missing_in gs
