use Rattle.std.proofs.Common.{◌≡◌, take}
use Rattle.cad_memory_ledger.proofs.reading.copies.Given as goal

abbrev pub invariant-loop-command : goal.invariant-loop-command
invariant-loop-command l = l.found.items ≡ take l.command-index l.commands
