use Rattle.cad_server.proofs.HighestLemmas.{knows_listed}
use Rattle.cad_server.proofs.snapshot_cache.SnapshotCache.highest_object.Goals as goal

pub returns : goal.returns
returns c = knows_listed c.args.self.now
