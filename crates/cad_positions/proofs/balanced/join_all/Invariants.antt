use Rattle.std.proofs.Common.{◌≡◌, ℕ, length}
use Rattle.cad_positions.specs.Has.{has_any}
use Rattle.cad_positions.proofs.balanced.join_all.Given as goal

abbrev pub invariant-loop-alloc : goal.invariant-loop-alloc
invariant-loop-alloc l =
    (k : ℕ) → has_any l.sources.items k ≡ has_any l.fn.sources.items k

abbrev pub decreases-loop-alloc : goal.decreases-loop-alloc
decreases-loop-alloc l = length l.sources.items
