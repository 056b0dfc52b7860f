use Rattle.std.proofs.Common.{subst, sym}
use Rattle.cad_feature.specs.Features.{AreFeaturesOf}
use Rattle.cad_layer.specs.lemmas.ListedLemmas.{none_listed}
use Rattle.cad_layer.proofs.indexed.Indexed.build.Goals as goal

pub build-requires-2-clause-listed : goal.build-requires-2-clause-listed
build-requires-2-clause-listed c = subst (AreFeaturesOf c.args.collection) (sym c.new.ensures.items) (none_listed c.args.collection)
