use Rattle.cad_versions.specs.lemmas.EntryLemmas.{listing_is}
use Rattle.cad_versions.proofs.laws.revisions_are_seen.Goals as goal

pub returns : goal.returns
returns c commands revision h = listing_is revision commands h
