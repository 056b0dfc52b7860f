use Rattle.std.proofs.Common.{◌≡◌, ℕ, ◌-◌, ◌&&◌, length}
use Rattle.std.specs.Prelude.{nat_le}
use Rattle.cad_positions.specs.Held.{is_left}
use Rattle.cad_positions.proofs.listed.Listed.settle.Given as goal

abbrev pub invariant-loop-self : goal.invariant-loop-self
invariant-loop-self l =
    (l.self.rows ≡ l.initial.self.rows)
    × ((k : ℕ) → (is_left l.self.rows.items l.self.at k && nat_le l.from k) ≡ (is_left l.initial.self.rows.items l.initial.self.at k && nat_le l.from k))

abbrev pub decreases-loop-self : goal.decreases-loop-self
decreases-loop-self l = length l.self.rows.items - l.self.at
