use Rattle.std.proofs.Common.{◌∙◌, ap, refl, length}
use Rattle.cad_positions.specs.Held.{is_among}
use Rattle.cad_run.proofs.PositionLemmas.{ranks_among}
use Rattle.cad_run.proofs.parts.found_part.Goals as goal

pub returns-in-Ranked : goal.returns-in-Ranked
returns-in-Ranked c =
    let w = c.in-Ranked in
    let kept = rw w.is at c.in_ok-positions.ensures in
    λ k. ranks_among w.ranks.now w.from w.to (length w.ranks.now) k refl ∙ ap (λ ks. is_among ks k) kept.0
