-- The next segment of those whose indexes were not asked.
use Rattle.std.specs.Prelude.{◌≡◌, ◌∷◌, Some, option_map}
use Rattle.cad_run.specs.declared.segments_left.SegmentsLeft.{SegmentsLeft}
use Rattle.cad_run.specs.declared.stepping.Next.{Next}
use Rattle.cad_run.specs.inner.Ends.{IsEnd}
use Rattle.cad_run.specs.Slices.{identifier, later}

-- it is the first of them, and has features that come after the named one, the last of which has this identifier
pub record IsNext (next : Next) (s : SegmentsLeft) : Type 0 where
  pub first : s.unopened.now ≡ next.segment.now ∷ next.behind.now
  pub end : IsEnd (Some (identifier next.last)) (later (option_map identifier s.after) next.segment.now.features)
