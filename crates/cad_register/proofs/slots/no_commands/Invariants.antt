use Rattle.std.proofs.Common.{◌≡◌, length}
use Rattle.cad_register.proofs.slots.no_commands.Given as goal

abbrev pub invariant-loop-at : goal.invariant-loop-at
invariant-loop-at l = length l.commands.items ≡ l.at
