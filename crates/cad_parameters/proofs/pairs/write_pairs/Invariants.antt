use Rattle.std.proofs.Common.{◌≡◌, [], map, take}
use Rattle.cad_parameters.specs.Pairs.{pair_text, written}
use Rattle.cad_parameters.proofs.pairs.write_pairs.Given as goal

abbrev pub invariant-loop-pair : goal.invariant-loop-pair
invariant-loop-pair l = record {
  form_is : l.form.form ≡ written (map pair_text (take l.pair-index l.pairs));
  prefix_is : l.form.prefix ≡ [];
}
