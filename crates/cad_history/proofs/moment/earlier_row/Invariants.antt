use Rattle.std.proofs.Common.{length}
use Rattle.std.specs.Option.{option_copied}
use Rattle.cad_layer.specs.Identifiers.{identifier}
use Rattle.cad_history.proofs.FoundLemmas.{IsFoundBefore}
use Rattle.cad_history.proofs.moment.earlier_row.Given as goal

abbrev pub invariant-loop-layer : goal.invariant-loop-layer
invariant-loop-layer l = IsFoundBefore (identifier l.object l.number) l.fn.revision l.fn.layers (option_copied l.found) l.rest

abbrev pub decreases-loop-layer : goal.decreases-loop-layer
decreases-loop-layer l = length l.rest
