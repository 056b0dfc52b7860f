use Rattle.cadastred_run.specs.inner.Printable.{StaysPrintable}
use Rattle.cadastred_run.proofs.printable.push_all.Given as goal

abbrev pub invariant-loop-byte : goal.invariant-loop-byte
invariant-loop-byte l = StaysPrintable l.fn.text.items l.text.items
