use Rattle.std.proofs.Common.{◌∙◌, ap}
use Rattle.cad_positions.specs.Rest.{left_in}
use Rattle.cad_positions.specs.Has.{has_Empty}
use Rattle.cad_run.proofs.SoughtLemmas.{no_rows}
use Rattle.cad_run.proofs.bases.Bases.none.Goals as goal

pub returns : goal.returns
returns c = no_rows c.features.result.now (left_in c.of.result) (λ k. c.of.ensures k ∙ ap (λ f. f k) has_Empty)
