use Rattle.cad_changes.proofs.AloneLemmas.{alone_listed}
use Rattle.cad_changes.proofs.adding.alone.Goals as goal

pub flatten-requires : goal.flatten-requires
flatten-requires c = alone_listed c.args.version.now c.from_ref.result.now c.from_ref.ensures.value c.requires
