-- What a command line asks for (own profile).
use Rattle.std.specs.Prelude.{ℕ, Bool, true, false, ◌&&◌, List, [], ◌∷◌, codes, Option, Some, None, if◌then◌else◌}
use Rattle.std.specs.Str.{bytes_eq}
use Rattle.cadastred_run.specs.declared.invocation.Invocation.{Invocation}
use Rattle.cadastred_run.specs.declared.invocation.Invocation.TheVariants.{Help, Version, Serve, Journal, Check}

-- what a command line asks for: a service of a file, at an address and for the office at a path, with a log or without, and with the chain of
-- the commands or without; or the journal of a file's register; or what that would answer to lines
pub data CommandLine : Type 0 where
  nothing : CommandLine
  help : CommandLine
  version : CommandLine
  a_service : Bool → Bool → List ℕ → List ℕ → List ℕ → CommandLine
  a_journal : List ℕ → CommandLine
  a_check : List ℕ → CommandLine

-- what one word after the program's name asks for
abbrev pub option_of : List ℕ → CommandLine
option_of option = if bytes_eq option (codes "--help") then help else (if bytes_eq option (codes "--version") then version else nothing)

-- what one word and a file's path after the program's name ask for
abbrev pub file_option_of : List ℕ → List ℕ → CommandLine
file_option_of option file = if bytes_eq option (codes "--journal") then a_journal file else (if bytes_eq option (codes "--check") then a_check file else nothing)

-- what one word and the words of a service after the program's name ask for
abbrev pub service_option_of : List ℕ → List ℕ → List ℕ → List ℕ → CommandLine
service_option_of option file address office = if bytes_eq option (codes "--log") then a_service true false file address office else (if bytes_eq option (codes "--chain") then a_service false true file address office else nothing)

-- what two words and the words of a service after the program's name ask for
abbrev pub both_options_of : List ℕ → List ℕ → List ℕ → List ℕ → List ℕ → CommandLine
both_options_of first second file address office = if bytes_eq first (codes "--chain") && bytes_eq second (codes "--log") then a_service true true file address office else nothing

-- what the words after the program's name ask for
abbrev pub command_line_of : List (List ℕ) → CommandLine
command_line_of [] = nothing
command_line_of (program ∷ []) = nothing
command_line_of (program ∷ option ∷ []) = option_of option
command_line_of (program ∷ option ∷ file ∷ []) = file_option_of option file
command_line_of (program ∷ file ∷ address ∷ office ∷ []) = a_service false false file address office
command_line_of (program ∷ option ∷ file ∷ address ∷ office ∷ []) = service_option_of option file address office
command_line_of (program ∷ first ∷ second ∷ file ∷ address ∷ office ∷ []) = both_options_of first second file address office
command_line_of (program ∷ first ∷ second ∷ file ∷ address ∷ office ∷ other ∷ words) = nothing

abbrev pub command_line : Option Invocation → CommandLine
command_line None = nothing
command_line (Some Help) = help
command_line (Some Version) = version
command_line (Some (Serve service)) = a_service service.logs service.chains service.file.now service.address.now service.office.now
command_line (Some (Journal file)) = a_journal file.now
command_line (Some (Check file)) = a_check file.now
