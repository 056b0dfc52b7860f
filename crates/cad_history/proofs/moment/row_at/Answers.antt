use Rattle.std.proofs.Common.{sym, subst}
use Rattle.cad_layer.specs.Identifiers.{identifier, IsTheOne}
use Rattle.cad_history.specs.Rows.{rows_at}
use Rattle.cad_history.proofs.FoundLemmas.{shown_one}
use Rattle.cad_history.proofs.moment.row_at.Goals as goal

pub returns : goal.returns
returns c = subst (IsTheOne (identifier c.args.object c.args.number) (rows_at c.args.revision c.args.layer.now.features)) (sym c.shown.ensures)
    (shown_one (identifier c.args.object c.args.number) c.args.revision c.args.layer.now.features _ c.collection-collection.ensures.listed.ascending c.feature.ensures)
