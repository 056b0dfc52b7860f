-- What holds of all lines of the land office.
use Rattle.std.specs.Prelude.{◌≡◌, List, map}
use Rattle.std.specs.List.{AllByRecursion}
use Rattle.cad_versions.specs.declared.command.Command.{Command}
use Rattle.cad_commands.specs.Writing.{command_text, IsOneLine}
use Rattle.cad_office.specs.Lines.{lines_ended}
use Rattle.cad_office.specs.JournalLines.{lines_of}

-- the lines of commands, read as the office reads lines, are the texts of these commands, each of which is one line, as the law `each_command_is_said` says of every command
abbrev pub LinesAreTheCommands : Type 0
LinesAreTheCommands = (commands : List Command) → AllByRecursion IsOneLine commands → lines_ended (lines_of commands) ≡ map command_text commands
