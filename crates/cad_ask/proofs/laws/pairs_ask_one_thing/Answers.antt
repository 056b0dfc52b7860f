use Rattle.cad_ask.proofs.SameLemmas.{one_thing}
use Rattle.cad_ask.proofs.laws.pairs_ask_one_thing.Goals as goal

pub returns : goal.returns
returns c = one_thing c.text_has_one_filter.ensures
