use Rattle.cad_extents.proofs.MarkLemmas.{copy_covers}
use Rattle.cad_extents.proofs.covered.Covered.copy.Goals as goal

pub returns : goal.returns
returns c = λ b held. copy_covers c.args.self.now c.in_ok-marks.marks (λ k. (c.in_ok-marks.ensures k).0) b held
