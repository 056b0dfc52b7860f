use Rattle.std.proofs.Common.{◌≡◌, ℕ, ◌||◌, length}
use Rattle.cad_positions.specs.Has.{has_any}
use Rattle.cad_run.specs.inner.Parts.{has_any_part}
use Rattle.cad_run.proofs.joining.joined.Given as goal

abbrev pub invariant-loop-part : goal.invariant-loop-part
invariant-loop-part l = (k : ℕ) → (has_any l.sources.items k || has_any_part l.parts.items k) ≡ has_any_part l.fn.parts.items k

abbrev pub decreases-loop-part : goal.decreases-loop-part
decreases-loop-part l = length l.parts.items
