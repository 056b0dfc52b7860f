use Rattle.cad_lookup.specs.WayLaws.{found_candidates}
use Rattle.cad_lookup.proofs.laws.ways_have_the_candidates.Goals as goal

pub returns : goal.returns
returns c = found_candidates
