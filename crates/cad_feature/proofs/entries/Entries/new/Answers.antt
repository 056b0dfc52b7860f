use Rattle.cad_versions.specs.Entries.{version_in}
use Rattle.cad_versions.specs.Identifiers.{by_identifier}
use Rattle.cad_feature.proofs.ListLemmas.{ascends_unmapped}
use Rattle.cad_feature.proofs.RunLemmas.{rise}
use Rattle.cad_feature.proofs.entries.Entries.new.Goals as goal

pub invariant_of-result : goal.invariant_of-result
invariant_of-result c = record { rising = rise version_in c.args.entries.now (ascends_unmapped version_in by_identifier c.args.entries.now c.requires.listing.ascending) }
