use Rattle.cad_layer.specs.lemmas.ListedLemmas.{none_listed}
use Rattle.cad_history.proofs.history.History.new.Goals as goal

pub build-requires-clause-listed : goal.build-requires-clause-listed
build-requires-clause-listed c = rw c.new.ensures.items (none_listed c.args.collection)
