use Rattle.cad_head.proofs.ApartLemmas.{replies_are_unambiguous}
use Rattle.cad_head.proofs.laws.replies_are_unambiguous.Goals as goal

pub returns : goal.returns
returns c = replies_are_unambiguous
