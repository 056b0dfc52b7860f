use Rattle.std.proofs.Common.{◌∙◌, ap}
use Rattle.cad_feature.specs.FeaturesThen.{feature_at}
use Rattle.cad_feature.proofs.RowLemmas.{row_is}
use Rattle.cad_feature.proofs.version_rows.row.Goals as goal

pub returns-clause-row : goal.returns-clause-row
returns-clause-row c = c.with_period.ensures ∙ row_is c.args.entries.now.entries.now c.args.collection c.args.entry.now c.args.period _ (c.in_ok-feature.ensures.feature ∙ ap (feature_at c.args.entries.now.entries.now c.args.collection c.args.entry.now) c.from-start.ensures)
