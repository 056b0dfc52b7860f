use Rattle.cad_feature.proofs.FoldedLemmas.{added_last, both_bits, kept_first}
use Rattle.cad_feature.proofs.marks.bits_of_ends.Goals as goal

pub returns-clause-least : goal.returns-clause-least
returns-clause-least c = λ all first last. both_bits all _ _ (c.bits_of_first.ensures.least all first) (c.bits_of_last.ensures.least all last)

pub returns-clause-first : goal.returns-clause-first
returns-clause-first c = kept_first c.args.first _ _ _ c.bits_of_first.ensures.own

pub returns-clause-last : goal.returns-clause-last
returns-clause-last c = added_last c.args.last _ _ _ c.bits_of_last.ensures.own
