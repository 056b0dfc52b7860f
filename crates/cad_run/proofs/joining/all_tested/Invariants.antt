use Rattle.std.proofs.Common.{◌≡◌, ℕ, ◌&&◌, drop}
use Rattle.cad_positions.specs.Has.{has}
use Rattle.cad_run.specs.inner.Parts.{has_all_wide}
use Rattle.cad_run.proofs.joining.all_tested.Given as goal

abbrev pub invariant-loop-wide : goal.invariant-loop-wide
invariant-loop-wide l = (k : ℕ) → (has l.source k && has_all_wide (drop l.wide-index l.wide-items) k) ≡ (has l.fn.source k && has_all_wide l.fn.tests.items k)
