-- The remaining candidates of a layer.
use Rattle.std.specs.Prelude.{◌<◌, ◌^◌, List, length}
use Rattle.std.specs.List.Sorted.{IsStrictlySortedBy}
use Rattle.cad_feature.specs.Features.{Item, by_identifier}
use Rattle.cad_run.specs.declared.candidates.Candidates.{Candidates}
use Rattle.cad_run.specs.SegmentLeft.{segments_ahead, segments_left}

abbrev pub candidates_left : Candidates → List Item
candidates_left c = segments_left c.segments

-- the features of the layer among which the candidates are looked for
abbrev pub candidates_ahead : Candidates → List Item
candidates_ahead c = segments_ahead c.segments

pub left_ascends : (c : Candidates) → IsStrictlySortedBy by_identifier (candidates_left c)
left_ascends c = c.ascending

pub left_bounded : (c : Candidates) → length (candidates_left c) < 2 ^ 64
left_bounded c = c.few
