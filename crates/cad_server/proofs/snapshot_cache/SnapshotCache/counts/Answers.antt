use Rattle.std.proofs.Common.{length, rules}
use Rattle.cad_versions.specs.AsOf.{as_of}
use Rattle.cad_server.proofs.CountLemmas.{are_so_many}
use Rattle.cad_server.proofs.snapshot_cache.SnapshotCache.counts.Goals as goal

pub returns : goal.returns
returns c = λ commands accepted kept.
    are_so_many (as_of (length commands) commands) c.counts_of.result (c.counts_of.ensures commands accepted (search (rules, kept.histories)))
