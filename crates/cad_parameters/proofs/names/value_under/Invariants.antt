use Rattle.std.proofs.Common.{◌≡◌, drop, map}
use Rattle.cad_parameters.specs.Pairs.{pair_text, given}
use Rattle.cad_parameters.proofs.names.value_under.Given as goal

-- what is given stands among the pairs that are left
abbrev pub invariant-loop-pair : goal.invariant-loop-pair
invariant-loop-pair l = given l.name (map pair_text l.pairs) ≡ given l.name (map pair_text (drop l.pair-index l.pairs))
