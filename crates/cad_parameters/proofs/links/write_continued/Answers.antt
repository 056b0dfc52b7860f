use Rattle.std.proofs.Common.{◌≡◌, ℕ, ◌≤◌, List, length, take_all, map, rules, arith, ◌∙◌, ap}
use Rattle.std.specs.Prelude.{codes, decimal, string_bytes, filter, not}
use Rattle.form_urlencoded.specs.Form.{append_pair}
use Rattle.cad_parameters.specs.declared.pairs.Pair.{Pair}
use Rattle.cad_parameters.specs.Pairs.{pair_text, written}
use Rattle.cad_parameters.specs.Identifiers.{numbers_of, identifier_text}
use Rattle.cad_parameters.specs.Links.{is_beginning}
use Rattle.cad_parameters.proofs.LinkLemmas.{continued_is}
use Rattle.cad_parameters.proofs.links.write_continued.Goals as goal

pub returns : goal.returns
returns c =
    let form = c.loop-pair.form.form in
    let pairs = c.args.pairs.now in
    let text : string_bytes c.finish.result
    ≡ append_pair (append_pair form (codes "revision") (decimal c.args.revision)) (codes "after") (identifier_text (numbers_of c.args.last)) = search rules in
    let over : length pairs ≤ c.loop-pair.pair-index = omega (arith, c.loop-pair-test.false) in
    let stays = c.loop-pair.invariant.form_is
    ∙ ap (λ (some : List Pair). written (filter (λ pair. not (is_beginning pair)) (map pair_text some))) (take_all c.loop-pair.pair-index pairs over) in
    text
    ∙ ap (λ (f : List ℕ). append_pair (append_pair f (codes "revision") (decimal c.args.revision)) (codes "after") (identifier_text (numbers_of c.args.last))) stays
    ∙ continued_is c.args.revision (numbers_of c.args.last) (map pair_text pairs)
