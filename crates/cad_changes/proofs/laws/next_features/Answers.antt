use Rattle.cad_changes.proofs.RevisionLemmas.{features_of_next}
use Rattle.cad_changes.proofs.laws.next_features.Goals as goal

pub returns : goal.returns
returns c = features_of_next
