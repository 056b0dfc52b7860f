use Rattle.std.proofs.Common.{◌≡◌, ◌+◌, ◌++◌, length, map, vec_len}
use Rattle.cad_versions.specs.LedgerCalls.{Applies}
use Rattle.cad_sample.specs.Filling.{Accepts}
use Rattle.cad_sample.specs.Instructions.{instruction_of}
use Rattle.cad_sample.proofs.filling.enter_all.Given as goal

abbrev pub invariant-loop-command : goal.invariant-loop-command
invariant-loop-command g l = record {
  left : l.yielded ++ l.command-iterator.rest.items ≡ l.fn.commands.items;
  counted : length l.yielded + l.command-iterator.rest.len ≡ vec_len l.fn.commands;
  accepted : Accepts (Applies g.L.Ledger) (map instruction_of l.yielded) l.fn.ledger 0 l.revision l.ledger;
}
