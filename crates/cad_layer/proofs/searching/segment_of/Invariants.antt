use Rattle.std.proofs.Common.{◌≡◌, ◌∷◌, length}
use Rattle.cad_layer.specs.Identifiers.{of_object}
use Rattle.cad_layer.specs.Segments.{AreSegments, joined}
use Rattle.cad_layer.proofs.searching.segment_of.Given as goal

abbrev pub invariant-loop-next : goal.invariant-loop-next
invariant-loop-next l = record {
  apart : AreSegments (l.found ∷ l.rest);
  same : of_object l.object (joined (l.found ∷ l.rest)) ≡ of_object l.object (joined l.segments);
}

abbrev pub decreases-loop-next : goal.decreases-loop-next
decreases-loop-next l = length l.rest
