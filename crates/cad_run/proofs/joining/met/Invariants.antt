use Rattle.std.proofs.Common.{◌≡◌, ℕ, ◌<◌, ◌&&◌, nat_lt, length}
use Rattle.cad_positions.specs.Has.{has_all}
use Rattle.cad_run.specs.inner.Parts.{has_all_parts, has_all_wide}
use Rattle.cad_run.proofs.joining.met.Given as goal

abbrev pub invariant-loop-part : goal.invariant-loop-part
invariant-loop-part l = record {
  same : (k : ℕ) → ((has_all l.sources.items k && has_all_wide l.tests.items k) && has_all_parts l.parts.items k) ≡ (nat_lt k l.count && has_all_parts l.fn.parts.items k);
  some : 0 < length l.sources.items;
}

abbrev pub decreases-loop-part : goal.decreases-loop-part
decreases-loop-part l = length l.parts.items
