use Rattle.std.proofs.Common.{◌≡◌, take}
use Rattle.cad_layer.proofs.renewing.renewed.Given as goal

abbrev pub invariant-loop-place : goal.invariant-loop-place
invariant-loop-place l = record {
  so_far : l.all.items ≡ take l.place l.segments;
}
