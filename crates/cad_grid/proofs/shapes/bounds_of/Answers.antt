use Rattle.std.proofs.Common.{ap, sym, Some, [], ◌∷◌}
use Rattle.cad_grid.specs.lemmas.CornerLemmas.{same_block}
use Rattle.cad_grid.proofs.shapes.bounds_of.Goals as goal

pub returns-in-Spot : goal.returns-in-Spot
returns-in-Spot c = rw (c.in-Spot.is, ← c.deref.ensures) (ap Some (sym (same_block c.at.result (c.deref.result.now ∷ []) c.at.ensures)))
