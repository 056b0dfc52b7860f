use Rattle.std.proofs.Common.{◌≡◌}
use Rattle.cad_ordered.specs.Fronts.{front_of}
use Rattle.cad_ordered.proofs.text_key.leading.Given as goal

abbrev pub invariant-loop-place : goal.invariant-loop-place
invariant-loop-place l = l.front ≡ front_of l.place l.bytes
