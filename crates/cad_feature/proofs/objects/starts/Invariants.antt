use Rattle.std.proofs.Common.{length}
use Rattle.cad_feature.specs.inner.Stretches.{AreStarts}
use Rattle.cad_feature.proofs.StretchLemmas.{Started}
use Rattle.cad_feature.proofs.objects.starts.Given as goal

-- The starts so far are those of the versions so far, and all of these are of stretches that have starts.
abbrev pub invariant-loop-position : goal.invariant-loop-position
invariant-loop-position l = AreStarts l.width l.versions l.position l.starts.items × Started l.width l.versions l.position (length l.starts.items)
