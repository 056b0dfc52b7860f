use Rattle.std.proofs.Common.{◌≡◌, None, ap, rules, subst, sym}
use Rattle.cad_feature.specs.Flatten.{features_in}
use Rattle.cad_history.specs.Histories.{rows_for}
use Rattle.cad_history.specs.Rows.{Rows, newest_alone}
use Rattle.cad_history.specs.Snapshots.{IsSnapshotOf, moment_features, with_features}
use Rattle.cad_history.proofs.BuiltLemmas.{is_of_versions}
use Rattle.cad_history.proofs.snapshot.Snapshot.in_segments.Goals as goal

pub returns : goal.returns
returns c =
    let versions = c.args.versions.items in
    subst (λ rows. IsSnapshotOf c.args.revision versions (with_features c.args.revision (moment_features None rows))) (sym c.in_ok-histories-2.ensures.ok)
    (is_of_versions c.args.revision versions c.in_ok-histories.histories (λ collection.
    let own = c.in_ok-histories.ensures collection in
    let all : rows_for c.in_ok-histories.histories collection ≡ newest_alone collection (features_in versions collection) = search rules in
    ap (λ (rows : Rows). rows.newest) all))
