use Rattle.cad_versions.specs.lemmas.HistoryLemmas.{histories}
use Rattle.cad_versions.proofs.laws.versions_are_histories.Goals as goal

pub returns : goal.returns
returns c commands accepted object = histories commands accepted object
