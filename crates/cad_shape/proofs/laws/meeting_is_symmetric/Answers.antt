use Rattle.cad_shape.proofs.LawLemmas.{meets_turned}
use Rattle.cad_shape.proofs.laws.meeting_is_symmetric.Goals as goal

pub returns : goal.returns
returns c = meets_turned
