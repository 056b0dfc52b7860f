-- What a line is: a command, or none for a cause that is true of it (own profile).
use Rattle.std.specs.Prelude.{ℕ, List}
use Rattle.cad_office.specs.Keeping.{Asks}
use Rattle.cad_dry_run.specs.declared.explaining.Explained.{Explained}
use Rattle.cad_dry_run.specs.declared.explaining.Explained.TheVariants.{Command, NoCommand}
use Rattle.cad_dry_run.specs.Causes.{IsNoCommand}

-- the line asks for the command; or it asks for none, and the explanation is true of it
abbrev pub IsExplained : List ℕ → Explained → Type 0
IsExplained text (Command command) = Asks text command
IsExplained text (NoCommand explanation) = IsNoCommand text explanation
