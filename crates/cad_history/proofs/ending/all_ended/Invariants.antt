use Rattle.std.proofs.Common.{◌≡◌, ◌++◌, map, length}
use Rattle.std.specs.List.Sorted.{IsStrictlySortedBy}
use Rattle.cad_feature.specs.Features.{by_identifier}
use Rattle.cad_history.specs.inner.Ending.{ended, replaced_by}
use Rattle.cad_history.proofs.ending.all_ended.Given as goal

abbrev pub invariant-loop-feature : goal.invariant-loop-feature
invariant-loop-feature l = record {
  so_far : map (ended l.fn.revision) (replaced_by l.fn.touched l.newest.features) ≡ l.all.items ++ map (ended l.fn.revision) (replaced_by l.rest l.newest.features);
  rises : IsStrictlySortedBy by_identifier l.rest;
}

abbrev pub decreases-loop-feature : goal.decreases-loop-feature
decreases-loop-feature l = length l.rest
