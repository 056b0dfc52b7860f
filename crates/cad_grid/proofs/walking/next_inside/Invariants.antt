use Rattle.std.proofs.Common.{◌≡◌, ℕ, ◌-◌, ◌<◌, ◌≤◌, false, length}
use Rattle.cad_grid.specs.Entries.{entry_at, inside}
use Rattle.cad_grid.proofs.walking.next_inside.Given as goal

abbrev pub invariant-loop-at : goal.invariant-loop-at
invariant-loop-at l = record {
  after : l.from ≤ l.at;
  within : l.at ≤ length l.entries;
  passed : (k : ℕ) → l.from ≤ k → k < l.at → inside l.asked (entry_at l.entries k) ≡ false;
}

abbrev pub decreases-loop-at : goal.decreases-loop-at
decreases-loop-at l = length l.entries - l.at
