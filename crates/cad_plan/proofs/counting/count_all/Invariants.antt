use Rattle.std.proofs.Common.{◌-◌, length}
use Rattle.cad_lookup.specs.Ways.{counts_of, way_of}
use Rattle.cad_plan.specs.Leaves.{AreFirstOf, leaf_counts}
use Rattle.cad_plan.proofs.counting.count_all.Given as goal

abbrev pub invariant-leaves : goal.invariant-leaves
invariant-leaves l = AreFirstOf l.counts.items (leaf_counts (counts_of l.features.features) (way_of l.full))

-- how many leaves are not counted yet
abbrev pub decreases-leaves : goal.decreases-leaves
decreases-leaves l = length (leaf_counts (counts_of l.features.features) (way_of l.full)) - length l.counts.items
