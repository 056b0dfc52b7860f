use Rattle.std.proofs.Common.{◌≡◌, ◌++◌, length}
use Rattle.cad_feature.specs.Features.{by_identifier}
use Rattle.cad_layer.specs.inner.Replaced.{replaced_in}
use Rattle.cad_layer.proofs.replacing.replaced_by.Given as goal

abbrev pub invariant-loop-change : goal.invariant-loop-change
invariant-loop-change g l = record {
  so_far : replaced_in by_identifier (g.T.Findable.features l.features) l.changes ≡ l.all.items ++ replaced_in by_identifier (g.T.Findable.features l.features) l.rest;
}

abbrev pub decreases-loop-change : goal.decreases-loop-change
decreases-loop-change g l = length l.rest
