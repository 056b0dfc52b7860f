use Rattle.std.proofs.Common.{◌≡◌, ◌∙◌, [], filter, length, ap, subst, sym}
use Rattle.std.proofs.lemmas.List.Sorted.{IsPermutation-refl}
use Rattle.cad_range.specs.Ranges.{lies_in}
use Rattle.cad_index.specs.Layers.{LayerFeatures}
use Rattle.cad_index.specs.Moments.{rows_at}
use Rattle.cad_index.specs.inner.Periods.{is_shown_in}
use Rattle.cad_index.proofs.RangeLemmas.{range_counted}
use Rattle.cad_index.proofs.base.Base.count_in_at.Goals as goal

pub returns-in-None : goal.returns-in-None
returns-in-None c =
    let xs = c.self.inside.features.items in
    subst (λ (m : LayerFeatures). 0 ≡ length (filter (λ x. lies_in x c.args.range.now) (rows_at c.args.revision m.features))) c.self.view_is
    (range_counted c.args.range.now c.args.revision xs [] [] (c.in-None.ensures c.self.inside.collection xs c.self.invariant.0 c.self.invariant.1) (IsPermutation-refl []))

pub returns-in-Some : goal.returns-in-Some
returns-in-Some c =
    let xs = c.self.inside.features.items in
    c.count_shown.ensures
    ∙ ap (λ l. length (filter (is_shown_in l c.args.revision) c.by_rank.result.now)) (c.features.ensures.features ∙ sym (ap (λ (m : LayerFeatures). m.features) c.self.view_is))
    ∙ range_counted c.args.range.now c.args.revision xs c.in-Some.found c.by_rank.result.now (c.in-Some.ensures c.self.inside.collection xs c.self.invariant.0 c.self.invariant.1) c.by_rank.ensures
    ∙ ap (λ (m : LayerFeatures). length (filter (λ x. lies_in x c.args.range.now) (rows_at c.args.revision m.features))) c.self.view_is
