use Rattle.std.proofs.Common.{◌≡◌, ℕ, length}
use Rattle.cad_layer.specs.Identifiers.{identifier, items_after}
use Rattle.cad_layer.specs.Segments.{AreSegments, joined}
use Rattle.cad_layer.proofs.searching.segments_from.Given as goal

abbrev pub invariant-loop-segment : goal.invariant-loop-segment
invariant-loop-segment l = record {
  apart : AreSegments l.rest;
  after : (number : ℕ) → items_after (identifier l.object number) (joined l.rest) ≡ items_after (identifier l.object number) (joined l.segments);
}

abbrev pub decreases-loop-segment : goal.decreases-loop-segment
decreases-loop-segment l = length l.rest
