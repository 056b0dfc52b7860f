use Rattle.cad_positions.proofs.Builds.{made_met}
use Rattle.cad_positions.proofs.source.Source.met.Goals as goal

pub returns : goal.returns
returns c = λ k. made_met _ c.args.first c.args.second k c.in_ok-first.ensures.ok c.in_ok-second.ensures.ok
