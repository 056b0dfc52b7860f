use Rattle.std.proofs.Common.{◌∙◌, ap, map, subst, sym}
use Rattle.std.specs.List.{All}
use Rattle.cad_feature.specs.Features.{AreFeaturesOf, IsFeatureOf}
use Rattle.cad_run.specs.Slices.{identifier}
use Rattle.cad_page.proofs.PieceLemmas.{rows_of_collection}
use Rattle.cad_page.proofs.piecing.page_of_search.Goals as goal

pub rows_found-requires : goal.rows_found-requires
rows_found-requires c = ap (map identifier) c.found.ensures ∙ c.requires.rows

pub returns-clause-features : goal.returns-clause-features
returns-clause-features c =
    let ask = c.args.ask.now in
    subst (All (IsFeatureOf ask.collection)) (sym c.in_ok-rows.ensures)
    (rows_of_collection c.collection-collection.result ask c.args.snapshot.now (c.collection-collection.ensures.collection ∙ c.features-features.ensures.collection)
    (subst (AreFeaturesOf c.collection-collection.result) c.features-features.ensures.features c.collection-collection.ensures.listed))
