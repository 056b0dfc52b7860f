use Rattle.std.specs.Prelude.{option_copied}
use Rattle.cad_parameters.specs.Identifiers.{numbers_of}
use Rattle.cad_history.specs.Snapshots.{features_at}
use Rattle.cad_server.proofs.FoundLemmas.{found_so}
use Rattle.cad_server.proofs.sought.feature_in.Goals as goal

pub returns : goal.returns
returns c = found_so c.identifiers_are_unique.ensures (numbers_of c.args.identifier) (features_at c.args.snapshot.now c.args.collection) (option_copied c.feature.result) c.feature.ensures.listed.ascending c.feature.ensures.one
