-- Rows that a search finds.
use Rattle.std.specs.Prelude.{ℕ, Option, Some, None, if◌then◌else◌}
use Rattle.cad_feature.specs.Features.{Item}
use Rattle.cad_history.specs.Rows.{is_shown_at}

-- the row, if it has its values at the revision
abbrev pub shown : ℕ → Option Item → Option Item
shown revision None = None
shown revision (Some x) = if is_shown_at revision x then Some x else None

-- the later row, or else the earlier one
abbrev pub later_or : Option Item → Option Item → Option Item
later_or None earlier = earlier
later_or (Some x) earlier = Some x
