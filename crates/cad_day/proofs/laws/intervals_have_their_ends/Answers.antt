use Rattle.cad_day.specs.Intervals.{has_its_ends}
use Rattle.cad_day.proofs.laws.intervals_have_their_ends.Goals as goal

pub returns : goal.returns
returns c = has_its_ends
