use Rattle.std.proofs.Common.{length, arith, rules}
use Rattle.std.proofs.lemmas.List.Sums.{position_or_len_is}
use Rattle.cad_parameters.specs.Parts.{is_byte}
use Rattle.cad_parameters.proofs.PartLemmas.{parted_at, parted_none}
use Rattle.cad_parameters.proofs.parts.part.Goals as goal

pub returns-in-Some : goal.returns-in-Some
returns-in-Some c =
    let text = c.args.text.now in
    let found = position_or_len_is (is_byte c.args.byte) text c.in-Some.place 0 (search rules) (search rules) (search rules) in
    parted_at c.args.byte text c.in-Some.place (search rules) found

pub returns-in-None : goal.returns-in-None
returns-in-None c =
    let text = c.args.text.now in
    let none = position_or_len_is (is_byte c.args.byte) text (length text) 0 (omega arith) (search rules) (search rules) in
    parted_none c.args.byte text none
