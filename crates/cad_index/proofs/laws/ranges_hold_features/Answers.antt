use Rattle.cad_feature.specs.Values.{null}
use Rattle.cad_ordered.specs.Ranged.{value_at, range_positions}
use Rattle.cad_range.specs.Ranges.{lies_between}
use Rattle.cad_index.proofs.Counted.{holds_at}
use Rattle.cad_index.proofs.laws.ranges_hold_features.Goals as goal

pub returns : goal.returns
unfolding range_positions
returns c = λ place xs low high p d h. holds_at (lies_between low high) (value_at place) null xs p d h
