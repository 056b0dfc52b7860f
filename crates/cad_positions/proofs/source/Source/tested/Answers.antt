use Rattle.cad_positions.proofs.Builds.{made_tested}
use Rattle.cad_positions.proofs.source.Source.tested.Goals as goal

pub returns : goal.returns
returns c = λ k. made_tested _ c.args.source k c.in_ok-source.ensures.ok
