use Rattle.std.proofs.Common.{◌∙◌, sym}
use Rattle.std.specs.Option.{option_copied}
use Rattle.std.proofs.lemmas.List.Kept.{IsStrictlySortedBy-filter}
use Rattle.cad_feature.specs.Features.{by_identifier}
use Rattle.cad_layer.specs.Identifiers.{identifier}
use Rattle.cad_history.specs.Rows.{is_shown_at, rows_at, earlier_at}
use Rattle.cad_history.proofs.FoundLemmas.{newest_found, earlier_found}
use Rattle.cad_history.proofs.moment.feature_in.Goals as goal

pub returns-then-is_some : goal.returns-then-is_some
returns-then-is_some c =
    let revision = c.args.past.revision in
    newest_found (identifier c.args.object c.args.number) (earlier_at revision c.args.past.earlier.now) (rows_at revision c.args.newest.now.features) c.row_at-row.result
    (IsStrictlySortedBy-filter by_identifier (is_shown_at revision) c.args.newest.now.features c.collection-collection.ensures.listed.ascending)
    (sym c.if-is_some.true ∙ c.is_some.ensures) c.row_at-row.ensures

pub returns : goal.returns
returns c =
    let revision = c.args.past.revision in
    earlier_found (identifier c.args.object c.args.number) (earlier_at revision c.args.past.earlier.now) (rows_at revision c.args.newest.now.features) c.row_at-row.result (option_copied c.earlier_row.result)
    (sym c.if-is_some.false ∙ c.is_some.ensures) c.row_at-row.ensures c.earlier_row.ensures
