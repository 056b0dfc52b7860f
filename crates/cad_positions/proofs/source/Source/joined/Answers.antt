use Rattle.std.proofs.Common.{refl}
use Rattle.cad_positions.proofs.Builds.{made_joined}
use Rattle.cad_positions.proofs.source.Source.joined.Goals as goal

pub returns : goal.returns
returns c = λ k. made_joined _ c.args.first c.args.second k refl refl c.in_ok-first.ensures.ok c.in_ok-second.ensures.ok
