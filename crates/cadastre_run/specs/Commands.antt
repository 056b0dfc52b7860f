-- What a command line asks for (own profile).
use Rattle.std.specs.Prelude.{◌≡◌, ℕ, List, [], ◌∷◌, codes, Option, Some, None, if◌then◌else◌}
use Rattle.std.specs.Str.{bytes_eq}
use Rattle.cad_serve.specs.Arguments.{count_of}
use Rattle.cadastre_run.specs.declared.command.Command.{Command}
use Rattle.cadastre_run.specs.declared.command.Command.TheVariants.{Sample, Ask, Serve, Office}

-- a command line, as what it asks for
pub data CommandLine : Type 0 where
  nothing : CommandLine
  a_sample : CommandLine
  an_ask : List ℕ → CommandLine
  a_service : List ℕ → List ℕ → ℕ → CommandLine
  an_office : List ℕ → CommandLine

-- serving a file at an address, for this many connections
abbrev pub service_of : List ℕ → List ℕ → Option ℕ → CommandLine
service_of file address None = nothing
service_of file address (Some count) = a_service file address count

-- what the words after the program's name ask for
abbrev pub command_line_of : List (List ℕ) → CommandLine
command_line_of [] = nothing
command_line_of (program ∷ []) = nothing
command_line_of (program ∷ name ∷ []) = if bytes_eq name (codes "sample") then a_sample else nothing
command_line_of (program ∷ name ∷ file ∷ []) = if bytes_eq name (codes "ask") then an_ask file else (if bytes_eq name (codes "office") then an_office file else nothing)
command_line_of (program ∷ name ∷ file ∷ address ∷ []) = nothing
command_line_of (program ∷ name ∷ file ∷ address ∷ count ∷ []) = if bytes_eq name (codes "serve") then service_of file address (count_of count) else nothing
command_line_of (program ∷ name ∷ file ∷ address ∷ count ∷ other ∷ words) = nothing

abbrev pub command_line_read : Option Command → CommandLine
command_line_read None = nothing
command_line_read (Some Sample) = a_sample
command_line_read (Some (Ask file)) = an_ask file.now
command_line_read (Some (Serve file service)) = a_service file.now service.address.now service.count
command_line_read (Some (Office file)) = an_office file.now

abbrev pub IsCommandOf : List (List ℕ) → Option Command → Type 0
IsCommandOf words command = command_line_read command ≡ command_line_of words
