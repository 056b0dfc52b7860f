use Rattle.std.proofs.Common.{sym, ◌∙◌}
use Rattle.std.proofs.lemmas.Bool.{false≢true}
use Rattle.cad_shape.specs.Shapes.{lent_shape}
use Rattle.cad_shape.proofs.ShapeLemmas.{meets_overlap}
use Rattle.cad_shape.proofs.relation.lent_meet.Goals as goal

pub returns-else-overlaps : goal.returns-else-overlaps
returns-else-overlaps c = (
  λ t. absurd (false≢true (sym c.if-overlaps.false ∙ t)),
  λ m. c.overlaps.ensures.1 (meets_overlap (lent_shape c.args.a) (lent_shape c.args.b) c.bounds.result c.bounds-2.result c.bounds.ensures c.bounds-2.ensures m),
)
