use Rattle.std.proofs.Common.{◌≡◌, ℕ, ◌+◌, ◌*◌, ◌-◌, ◌^◌, ◌&&◌}
use Rattle.std.specs.Prelude.{nat_le}
use Rattle.cad_positions.specs.Has.{has_met, has_tested}
use Rattle.cad_positions.specs.inner.Heights.{height, height_met, height_tested, height_joined}
use Rattle.cad_positions.proofs.settling.+settle.Given as goal

abbrev pub decreases-settle : goal.decreases-settle
decreases-settle l = 2 + 3 * height l.source.now

abbrev pub decreases-advance : goal.decreases-advance
decreases-advance l = 3 + 3 * height l.source.now

abbrev pub decreases-settle_tested : goal.decreases-settle_tested
decreases-settle_tested l = 1 + 3 * height_tested l.tested.now

abbrev pub decreases-settle_met : goal.decreases-settle_met
decreases-settle_met l = 1 + 3 * height_met l.met.now

abbrev pub decreases-settle_joined : goal.decreases-settle_joined
decreases-settle_joined l = 1 + 3 * height_joined l.joined.now

-- what both have from here on is what both had from `from` on
abbrev pub invariant-settle_met-loop-first : goal.invariant-settle_met-loop-first
invariant-settle_met-loop-first l = record {
  same : (k : ℕ) → (has_met l.met k && nat_le l.at k) ≡ (has_met l.initial.met k && nat_le l.from k);
  first_height : height l.met.first.value ≡ height l.initial.met.first.value;
  second_height : height l.met.second.value ≡ height l.initial.met.second.value;
}

abbrev pub decreases-settle_met-loop-first : goal.decreases-settle_met-loop-first
decreases-settle_met-loop-first l = 2 ^ 32 - l.at

-- what passes from here on is what passed from `from` on
abbrev pub invariant-settle_tested-loop-row : goal.invariant-settle_tested-loop-row
invariant-settle_tested-loop-row l = record {
  same : (k : ℕ) → (has_tested l.tested k && nat_le l.at k) ≡ (has_tested l.initial.tested k && nat_le l.from k);
  same_height : height l.tested.source.value ≡ height l.initial.tested.source.value;
}

abbrev pub decreases-settle_tested-loop-row : goal.decreases-settle_tested-loop-row
decreases-settle_tested-loop-row l = 2 ^ 32 - l.at
