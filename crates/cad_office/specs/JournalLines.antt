-- A journal as lines of the land office, written a piece at a time (own profile).
use Rattle.std.specs.Prelude.{◌≡◌, ◌⊎◌, ℕ, ◌≤◌, Bool, true, false, List, [], ◌∷◌, ◌++◌, length, drop, codes, decimal}
use Rattle.cad_versions.specs.declared.command.Command.{Command}
use Rattle.cad_commands.specs.Writing.{command_text}
use Rattle.cad_office.specs.declared.journal.JournalLines.{JournalLines}

-- the line of a command: its text, and LF
abbrev pub line_of : Command → List ℕ
line_of command = command_text command ++ 10 ∷ []

abbrev pub lines_of : List Command → List ℕ
lines_of [] = []
lines_of (c ∷ cs) = line_of c ++ lines_of cs

-- the revision that the last command made
abbrev pub end_line : ℕ → List ℕ
end_line newest = codes "end " ++ (decimal newest ++ 10 ∷ [])

abbrev pub end_if : Bool → ℕ → List ℕ
end_if true newest = end_line newest
end_if false newest = []

-- if no command is left, the end
abbrev pub end_behind : List Command → ℕ → List ℕ
end_behind [] newest = end_line newest
end_behind (c ∷ cs) newest = []

-- those that were not written yet
abbrev pub commands_left : JournalLines → List Command
commands_left lines = drop lines.at lines.commands.items

abbrev pub most_commands : ℕ
most_commands = 16

-- the lines of the next commands, and the end after the last one of all
pub record WritesPiece (text : List ℕ) (old new : JournalLines) : Type 0 where
  pub front : List Command
  pub left : commands_left old ≡ front ++ commands_left new
  pub few : length front ≤ most_commands
  -- as many as a piece may have, or all
  pub full : (length front ≡ most_commands) ⊎ (commands_left new ≡ [])
  pub lines : text ≡ lines_of front ++ end_behind (commands_left new) old.newest
  pub same : new.newest ≡ old.newest
