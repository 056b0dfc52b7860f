use Rattle.std.proofs.Common.{◌∙◌, sym, map}
use Rattle.std.specs.Vec.Iter.{into_iter_items}
use Rattle.cad_history.specs.inner.Starting.{items_in}
use Rattle.cad_history.proofs.StartedLemmas.{all_pushed, none_pushed}
use Rattle.cad_history.proofs.starting.push_rows.Goals as goal

pub returns : goal.returns
returns c =
    sym (sym (all_pushed c.args.rows.items (map items_in c.args.lists.now.items)) ∙ c.loop-row.invariant.so_far
    ∙ none_pushed c.loop-row.at (into_iter_items c.loop-row.row-iterator) (map items_in c.loop-row.lists.items) (sym c.loop-row.invariant.left ∙ c.in-None.ensures.steps.0))
