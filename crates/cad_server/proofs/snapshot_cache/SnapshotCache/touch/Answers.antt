use Rattle.std.proofs.Common.{nat_eq, refl}
use Rattle.cad_server.proofs.KeptLemmas.{kept_promoted}
use Rattle.cad_server.proofs.snapshot_cache.SnapshotCache.touch.Goals as goal

pub returns : goal.returns
returns c = record {
  histories = refl;
  totals = refl;
  snapshots = λ commands all. kept_promoted commands (nat_eq c.args.revision) c.args.self.now.snapshots _ c.promote.ensures.entries all;
}
