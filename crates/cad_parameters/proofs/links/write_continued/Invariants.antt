use Rattle.std.proofs.Common.{◌≡◌, [], map, take}
use Rattle.std.specs.Prelude.{filter, not}
use Rattle.cad_parameters.specs.Pairs.{pair_text, written}
use Rattle.cad_parameters.specs.Links.{is_beginning}
use Rattle.cad_parameters.proofs.links.write_continued.Given as goal

-- the pairs so far are written, but for the beginning of the page before
abbrev pub invariant-loop-pair : goal.invariant-loop-pair
invariant-loop-pair l = record {
  form_is : l.form.form ≡ written (filter (λ pair. not (is_beginning pair)) (map pair_text (take l.pair-index l.pairs)));
  prefix_is : l.form.prefix ≡ [];
}
