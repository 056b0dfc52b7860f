-- The remaining candidates of a base.
use Rattle.std.specs.Prelude.{List, filter}
use Rattle.cad_feature.specs.Features.{Item}
use Rattle.cad_positions.specs.AllRows.{rows_of}
use Rattle.cad_positions.specs.Rest.{left_in}
use Rattle.cad_run.specs.declared.bases.Bases.{Bases}
use Rattle.cad_run.specs.Positions.{items_at}
use Rattle.cad_run.specs.Sought.{is_in_time}

-- the features at the positions that are left
abbrev pub placed_left : Bases → List Item
placed_left b = items_at b.features.now (rows_of (left_in b.rows))

-- those of them that have their values at the revision, if there is one
abbrev pub rows_left : Bases → List Item
rows_left b = filter (is_in_time b.revision) (placed_left b)
