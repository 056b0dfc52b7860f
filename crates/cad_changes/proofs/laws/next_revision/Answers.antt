use Rattle.cad_changes.proofs.RevisionLemmas.{revision_next}
use Rattle.cad_changes.proofs.laws.next_revision.Goals as goal

pub returns : goal.returns
returns c = revision_next
