use Rattle.std.proofs.Common.{◌≡◌, ◌+◌, ◌++◌, List, length, vec_len}
use Rattle.cad_versions.specs.declared.command.Command.{Command}
use Rattle.cad_dry_run.proofs.copying.enter_all.Given as goal

abbrev pub invariant-loop-command : goal.invariant-loop-command
invariant-loop-command g l = record {
  left : l.yielded ++ l.command-iterator.rest.items ≡ l.fn.commands.items;
  counted : length l.yielded + l.command-iterator.rest.len ≡ vec_len l.fn.commands;
  holds : g.L.Ledger.counts l.ledger → (before : List Command) → g.L.Ledger.stands_for l.fn.ledger before → g.L.Ledger.stands_for l.ledger (before ++ l.yielded);
  clean : g.L.Ledger.counts l.ledger → g.L.Ledger.counts l.fn.ledger;
}
