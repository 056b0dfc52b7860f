use Rattle.cad_head.proofs.HeadsLemmas.{fits_unique}
use Rattle.cad_head.proofs.laws.bytes_have_one_head.Goals as goal

pub returns : goal.returns
returns c bytes head other rest left = fits_unique bytes head other rest left
