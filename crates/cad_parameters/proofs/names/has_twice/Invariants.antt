use Rattle.std.proofs.Common.{◌≡◌, map, length}
use Rattle.cad_parameters.specs.Pairs.{pair_text}
use Rattle.cad_parameters.specs.Parameters.{has_twice}
use Rattle.cad_parameters.proofs.names.has_twice.Given as goal

-- no name of the pairs before is given again
abbrev pub invariant-loop-rest : goal.invariant-loop-rest
invariant-loop-rest l = has_twice (map pair_text l.pairs) ≡ has_twice (map pair_text l.rest)

abbrev pub decreases-loop-rest : goal.decreases-loop-rest
decreases-loop-rest l = length l.rest
