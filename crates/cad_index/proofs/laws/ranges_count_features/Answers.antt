use Rattle.cad_feature.specs.Values.{null}
use Rattle.cad_ordered.specs.Ranged.{value_at, range_positions}
use Rattle.cad_range.specs.Ranges.{lies_between}
use Rattle.cad_index.proofs.Counted.{counted_by}
use Rattle.cad_index.proofs.laws.ranges_count_features.Goals as goal

pub returns : goal.returns
unfolding range_positions
returns c = λ place xs low high. counted_by (lies_between low high) (value_at place) null xs
