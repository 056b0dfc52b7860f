use Rattle.std.proofs.Common.{◌∙◌, ap, length, filter, take, nat_lt, option_map}
use Rattle.cad_run.specs.Slices.{identifier, is_later}
use Rattle.cad_run.specs.lemmas.TakenLemmas.{turned}
use Rattle.cad_run.proofs.paging.page_of.Goals as goal

pub returns-clause-rows : goal.returns-clause-rows
returns-clause-rows g c =
    let p = g.T.FeatureTest.passes c.args.test.now in
    c.in_ok-page.ensures.rows
    ∙ ap (take c.args.limit) (ap (filter p) c.left_after-left.ensures ∙ turned p (is_later (option_map identifier c.args.after)) (g.S.FeatureSource.left c.args.source))

pub returns-clause-more : goal.returns-clause-more
returns-clause-more g c =
    let p = g.T.FeatureTest.passes c.args.test.now in
    c.in_ok-page.ensures.more
    ∙ ap (λ xs. nat_lt c.args.limit (length xs)) (ap (filter p) c.left_after-left.ensures ∙ turned p (is_later (option_map identifier c.args.after)) (g.S.FeatureSource.left c.args.source))
