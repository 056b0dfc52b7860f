-- What holds of every text, beyond what a call says.
use Rattle.std.specs.Prelude.{◌≡◌, ℕ, List, IsUtf8}
use Rattle.cad_versions.specs.declared.command.Command.{Command}
use Rattle.cad_commands.specs.Commands.{Says, SaysCommand}
use Rattle.cad_commands.specs.MemberOrder.{DifferInOrder}
use Rattle.cad_commands.specs.Writing.{command_members, command_text, IsOneLine}

-- a text says at most one command
abbrev pub TextSaysOneCommand : Type 0
TextSaysOneCommand = (text : List ℕ) (a b : Command) → Says text a → Says text b → a ≡ b

-- a text whose members are in another order says the same command
abbrev pub MembersInAnyOrder : Type 0
MembersInAnyOrder = (text other : List ℕ) → DifferInOrder text other → IsUtf8 other → (command : Command) → Says text command → Says other command

-- the object with these members says the command, and its compact text, in UTF-8, says it: so each command is said by some text, and that is one line
abbrev pub IsSaid : Command → Type 0
IsSaid command = SaysCommand (command_members command) command × Says (command_text command) command × IsOneLine command
