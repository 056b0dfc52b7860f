-- What it means to read a value.
use Rattle.std.specs.Prelude.{Result, Ok, Err}
use Rattle.cad_commands.specs.declared.command_error.CommandError.{CommandError}
use Rattle.cad_commands.specs.declared.command_error.CommandError.TheVariants.{NotACommand, Memory}

-- the answer that it is no command is given only if nothing is said
abbrev pub IsUnread : {X : Type 0} → (X → Type 0) → CommandError → Type 0
IsUnread {X} Says NotACommand = (x : X) → ¬ Says x
IsUnread Says Memory = Unit {0}

-- what is read, seen this way, is what is said
abbrev pub IsReadAs : {T X : Type 0} → (T → X) → (X → Type 0) → Result T CommandError → Type 0
IsReadAs see Says (Ok value) = Says (see value)
IsReadAs see Says (Err error) = IsUnread Says error

abbrev pub IsRead : {T : Type 0} → (T → Type 0) → Result T CommandError → Type 0
IsRead Says result = IsReadAs (λ value. value) Says result
