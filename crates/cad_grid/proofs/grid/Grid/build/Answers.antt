use Rattle.std.proofs.Common.{◌≡◌, ◌∙◌, ap, refl, arith, length}
use Rattle.cad_positions.specs.Hits.{once}
use Rattle.cad_grid.specs.Near.{block_at_place}
use Rattle.cad_grid.specs.Entries.{is_wide_at, small_tally}
use Rattle.cad_grid.proofs.Ascending.{ascends_sorted}
use Rattle.cad_grid.proofs.Building.{blocks_more, all_counted, kept_more, entered_moved}
use Rattle.cad_grid.proofs.grid.Grid.build.Goals as goal

pub loop-position-preserved : goal.loop-position-preserved
loop-position-preserved c =
    let a = c.args in
    let xs = a.features.now in
    let p = c.loop-position.position in
    let i = c.loop-position.invariant in
    let n : length c.loop-position.all.items ≡ p = all_counted a.place xs p c.loop-position.all.items (omega arith) i.blocks in
    record {
      blocks = rw c.in_ok-push.ensures.items (blocks_more a.place xs p c.index-features-position.result c.loop-position.all.items c.cells_at-cells.result (omega arith) i.blocks (c.cells_at-cells.ensures ∙ ap (block_at_place a.place) c.index-features-position.is));
      listed = λ v. rw c.in_ok-push.ensures.items (kept_more (λ o. once (is_wide_at o)) refl c.loop-position.all.items c.cells_at-cells.result v p _ _ n (i.listed v) (c.in_ok-enter_shape.ensures.wide v));
      entered_once = λ q v. rw c.in_ok-push.ensures.items (kept_more (small_tally q) refl c.loop-position.all.items c.cells_at-cells.result v p _ _ n (i.entered_once q v) (c.in_ok-enter_shape.ensures.entries q v));
    }

pub invariant_of-result : goal.invariant_of-result
invariant_of-result c =
    let xs = c.args.features.now in
    let i = c.loop-position.invariant in
    let n : length c.loop-position.all.items ≡ c.loop-position.position = all_counted c.args.place xs c.loop-position.position c.loop-position.all.items (omega arith) i.blocks in (
      record {
        small = omega arith;
        listed = i.listed;
        entered_once = λ q v. entered_moved q v c.loop-position.entries.items _ _ c.sort_unstable.ensures.permutation (i.entered_once q v);
        ascending = ascends_sorted c.sort_unstable.new.self.items c.sort_unstable.ensures.sorted;
      },
      rw c.deref.ensures.value at c.in_ok-marks.ensures,
    )
