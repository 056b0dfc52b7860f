use Rattle.std.proofs.Common.{◌≡◌, take}
use Rattle.cad_history.proofs.settling.settled_layers.Given as goal

abbrev pub invariant-loop-layer : goal.invariant-loop-layer
invariant-loop-layer l = l.all.items ≡ take l.layer-index l.layers
