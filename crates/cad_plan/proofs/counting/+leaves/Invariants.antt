use Rattle.std.proofs.Common.{◌≤◌, ◌+◌, length, map, take}
use Rattle.cad_lookup.specs.Ways.{counts_of, way_of}
use Rattle.cad_plan.specs.inner.Windows.{AreCounted, counts_of_leaves}
use Rattle.cad_plan.proofs.counting.+leaves.Given as goal

-- the leaves of the parts so far are counted
abbrev pub invariant-count_in_all-loop-part : goal.invariant-count_in_all-loop-part
invariant-count_in_all-loop-part l = record {
  counted : AreCounted (counts_of_leaves (counts_of l.features.features) (map way_of (take l.part-index l.parts))) l.fn.counts.items l.fn.window l.counts.items l.window;
  few : length l.counts.items + l.window.room ≤ length l.fn.counts.items + l.fn.window.room;
}
