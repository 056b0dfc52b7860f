-- The candidates of all rows, or of those that have their values at a revision.
use Rattle.std.specs.Prelude.{ℕ, Bool, true, ◌&&◌, Option, Some, None}
use Rattle.cad_feature.specs.Features.{Item}
use Rattle.cad_index.specs.Moments.{is_shown_at}
use Rattle.cad_lookup.specs.Candidates.{is_candidate}
use Rattle.cad_run.specs.declared.sought.Sought.{Sought}

-- the row has its values at the revision, if there is one
abbrev pub is_in_time : Option ℕ → Item → Bool
is_in_time None x = true
is_in_time (Some revision) x = is_shown_at revision x

abbrev pub is_sought : Sought → Item → Bool
is_sought s x = is_in_time s.revision x && is_candidate s.plan.now x
