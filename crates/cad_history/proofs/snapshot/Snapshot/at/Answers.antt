use Rattle.std.proofs.Common.{Some, subst, sym}
use Rattle.cad_versions.specs.AsOf.{as_of}
use Rattle.cad_history.specs.Histories.{AreInPlace}
use Rattle.cad_history.specs.Snapshots.{IsSnapshotOf, moment_features, with_features}
use Rattle.cad_history.proofs.BuiltLemmas.{is_of_commands}
use Rattle.cad_history.proofs.snapshot.Snapshot.at.Goals as goal

pub returns-clause-snapshot : goal.returns-clause-snapshot
returns-clause-snapshot c commands are within =
    subst (λ rows. IsSnapshotOf c.args.revision (as_of c.args.revision commands) (with_features c.args.revision (moment_features (Some c.args.revision) rows))) (sym c.in_ok-histories.ensures.cases)
    (is_of_commands commands c.args.revision c.args.histories.now.value (subst AreInPlace c.deref.ensures c.of-parcels.ensures.in_place) are within)
