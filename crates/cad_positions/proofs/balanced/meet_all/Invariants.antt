use Rattle.std.proofs.Common.{◌≡◌, ℕ, ◌<◌, length}
use Rattle.cad_positions.specs.Has.{has_all}
use Rattle.cad_positions.proofs.balanced.meet_all.Given as goal

abbrev pub invariant-loop-alloc : goal.invariant-loop-alloc
invariant-loop-alloc l = record {
  same : (k : ℕ) → has_all l.sources.items k ≡ has_all l.fn.sources.items k;
  some : 0 < length l.sources.items;
}

abbrev pub decreases-loop-alloc : goal.decreases-loop-alloc
decreases-loop-alloc l = length l.sources.items
