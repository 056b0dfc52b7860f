use Rattle.std.proofs.Common.{refl, subst, sym}
use Rattle.cad_server.specs.Keeping.{IsCached}
use Rattle.cad_server.proofs.KeptLemmas.{kept_put}
use Rattle.cad_server.proofs.snapshot_cache.SnapshotCache.add.Goals as goal

pub returns : goal.returns
returns c = record {
  histories = refl;
  totals = refl;
  snapshots = λ commands cached all. kept_put commands c.args.self.now.snapshots _ c.revision-revision.result c.args.snapshot c.put.result c.put.ensures.entries c.put.ensures.err all
      (subst (λ n. IsCached commands (n, c.args.snapshot)) (sym c.revision-revision.ensures) cached);
}
