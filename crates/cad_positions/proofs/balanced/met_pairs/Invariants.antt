use Rattle.std.proofs.Common.{◌≡◌, ℕ, ◌+◌, ◌*◌, ◌≤◌, ◌<◌, ◌&&◌, length}
use Rattle.cad_positions.specs.Has.{has_all}
use Rattle.cad_positions.proofs.balanced.met_pairs.Given as goal

abbrev pub invariant-loop-first : goal.invariant-loop-first
invariant-loop-first l = record {
  same : (k : ℕ) → (has_all l.pairs.items k && has_all l.sources.items k) ≡ has_all l.fn.sources.items k;
  fewer : 2 * length l.pairs.items + length l.sources.items ≤ length l.fn.sources.items + 1;
  even : 0 < length l.sources.items → 2 * length l.pairs.items + length l.sources.items ≤ length l.fn.sources.items;
  some : 0 < length l.fn.sources.items → 0 < length l.pairs.items + length l.sources.items;
}

abbrev pub decreases-loop-first : goal.decreases-loop-first
decreases-loop-first l = length l.sources.items
