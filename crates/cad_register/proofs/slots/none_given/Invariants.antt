use Rattle.std.proofs.Common.{◌≡◌, length}
use Rattle.cad_register.specs.inner.Slots.{missing_in}
use Rattle.cad_register.proofs.slots.none_given.Given as goal

abbrev pub invariant-loop-at : goal.invariant-loop-at
invariant-loop-at l = record {
  even : length l.given.items ≡ l.at;
  missing : missing_in l.given.items ≡ l.at;
}
