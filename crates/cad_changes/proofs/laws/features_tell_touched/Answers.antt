use Rattle.cad_changes.proofs.TouchedLemmas.{touched_is}
use Rattle.cad_changes.proofs.laws.features_tell_touched.Goals as goal

pub returns : goal.returns
returns c = touched_is
