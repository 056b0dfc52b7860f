use Rattle.std.proofs.Common.{◌≡◌, ◌∙◌, [], filter, length, ap, subst, sym}
use Rattle.cad_grid.specs.Blocks.{block_of}
use Rattle.cad_grid.specs.Near.{is_near}
use Rattle.cad_grid.specs.Grids.{near_positions}
use Rattle.cad_index.specs.Layers.{LayerFeatures}
use Rattle.cad_index.specs.Moments.{rows_at}
use Rattle.cad_index.specs.inner.Periods.{is_shown_in}
use Rattle.cad_index.proofs.NearLemmas.{near_counted}
use Rattle.cad_index.proofs.Served.{with_grid, without_grid}
use Rattle.cad_index.proofs.base.Base.count_near_at.Goals as goal

pub returns-in-None : goal.returns-in-None
returns-in-None c =
    let i = c.self.inside in
    let asked = block_of c.args.bounds in
    subst (λ (m : LayerFeatures). 0 ≡ length (filter (is_near c.args.property asked) (rows_at c.args.revision m.features))) c.self.view_is
    (near_counted c.args.property asked c.args.revision i.features.items [] (without_grid i.collection i.features.items c.self.invariant.0 i.indexes c.self.invariant.1 c.args.property asked (rw c.in-None.is at c.grid.ensures)))

pub returns-in-Some : goal.returns-in-Some
returns-in-Some c =
    let i = c.self.inside in
    let asked = block_of c.args.bounds in
    let found = near_positions c.in-Some.grid.now asked in
    c.count_passing.ensures
    ∙ ap (λ l. length (filter (is_shown_in l c.args.revision) found)) (c.features.ensures.features ∙ sym (ap (λ (m : LayerFeatures). m.features) c.self.view_is))
    ∙ near_counted c.args.property asked c.args.revision i.features.items found (with_grid i.collection i.features.items c.self.invariant.0 i.indexes c.self.invariant.1 c.args.property c.in-Some.grid.now asked (rw c.in-Some.is at c.grid.ensures))
    ∙ ap (λ (m : LayerFeatures). length (filter (is_near c.args.property asked) (rows_at c.args.revision m.features))) c.self.view_is
