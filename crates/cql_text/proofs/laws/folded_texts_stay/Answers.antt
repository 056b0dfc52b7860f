use Rattle.caseless.proofs.CaselessLemmas.{default_case_fold_idem}
use Rattle.cql_text.proofs.laws.folded_texts_stay.Goals as goal

pub returns : goal.returns
returns c = default_case_fold_idem
