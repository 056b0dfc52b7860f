use Rattle.std.proofs.Common.{◌≡◌, map, take}
use Rattle.std.specs.List.{list_any}
use Rattle.cad_parameters.specs.Pairs.{pair_text}
use Rattle.cad_parameters.specs.Parameters.{is_unknown}
use Rattle.cad_parameters.proofs.names.has_unknown.Given as goal

abbrev pub invariant-loop-pair : goal.invariant-loop-pair
invariant-loop-pair l = l.is_found ≡ list_any is_unknown (map pair_text (take l.pair-index l.pairs))
