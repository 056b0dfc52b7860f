use Rattle.std.proofs.Common.{ℕ, ◌-◌, ◌<◌, ◌≤◌, length}
use Rattle.cad_grid.specs.Entries.{IsBefore, entry_at}
use Rattle.cad_grid.proofs.walking.first_at.Given as goal

abbrev pub invariant-loop-low : goal.invariant-loop-low
invariant-loop-low l = record {
  after : l.from ≤ l.low;
  ordered : l.low ≤ l.high;
  within : l.high ≤ length l.entries;
  before : (k : ℕ) → l.from ≤ k → k < l.low → IsBefore l.row l.column (entry_at l.entries k);
}

abbrev pub decreases-loop-low : goal.decreases-loop-low
decreases-loop-low l = l.high - l.low
