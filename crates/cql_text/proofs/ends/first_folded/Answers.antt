use Rattle.unicode_normalization.proofs.IterLemmas.{Spells-chars}
use Rattle.caseless.proofs.CaselessLemmas.{Spells-CaseFold}
use Rattle.cql_text.proofs.FoldLemmas.{first_of}
use Rattle.cql_text.proofs.ends.first_folded.Goals as goal

pub returns : goal.returns
returns c = first_of _ _ _ _ c.next.ensures.steps (Spells-CaseFold (c.default_case_fold-all.ensures.text _ (Spells-chars _ _ c.utf8.text c.chars.ensures.rest)))
