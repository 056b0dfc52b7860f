use Rattle.std.proofs.Common.{rules}
use Rattle.cad_grid.proofs.CellLemmas.{counted_up, passed_on}
use Rattle.cad_grid.proofs.cells.Cells.of.Goals as goal
use mir.Syntax.{w64}
use mir.Val.{SFits}

pub invariant_of-result : goal.invariant_of-result
invariant_of-result c =
    let b = c.args.bounds in
    let left : SFits w64 b.x_min = search rules in
    let right : SFits w64 b.x_max = search rules in
    let low : SFits w64 b.y_min = search rules in
    let high : SFits w64 b.y_max = search rules in
    record {
      wide = counted_up c.cell_of-left.result c.cell_of-right.result b.x_min b.x_max (passed_on _ _ left c.cell_of-left.ensures.cell) (passed_on _ _ right c.cell_of-right.ensures.cell) b.width.2;
      tall = counted_up c.cell_of-low.result c.cell_of-high.result b.y_min b.y_max (passed_on _ _ low c.cell_of-low.ensures.cell) (passed_on _ _ high c.cell_of-high.ensures.cell) b.height.2;
      within = c.cell_of-right.ensures.within;
      below = c.cell_of-high.ensures.within;
    }
