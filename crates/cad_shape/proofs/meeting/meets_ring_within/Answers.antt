use Rattle.std.proofs.Common.{sym, ap, ◌∙◌}
use mathlib.Core.Bool.{not}
use Rattle.std.proofs.lemmas.Bool.{false≢true}
use Rattle.cad_shape.proofs.Overlaps.{ring_missed}
use Rattle.cad_shape.proofs.meeting.meets_ring_within.Goals as goal

pub returns-else-not-is_beside : goal.returns-else-not-is_beside
returns-else-not-is_beside c = (
  λ t. absurd (false≢true (sym (ap not c.if-not-is_beside.false) ∙ t)),
  λ m. absurd (ring_missed c.args.bounds c.args.p c.args.q (c.is_beside.ensures c.if-not-is_beside.false) c.args.corners.now c.requires.held m),
)
