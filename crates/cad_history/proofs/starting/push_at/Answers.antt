use Rattle.std.proofs.Common.{◌∷◌, [], ◌++◌, ◌∙◌, map, ap, arith}
use Rattle.cad_history.specs.inner.Starting.{items_in}
use Rattle.cad_history.proofs.StartedLemmas.{set_pushed, end_pushed}
use Rattle.cad_history.proofs.starting.push_at.Goals as goal

pub returns-then-at-len-clause-lists : goal.returns-then-at-len-clause-lists
returns-then-at-len-clause-lists c =
    set_pushed c.args.at c.args.lists.now.items c.index_mut.result.now c.push.new.self c.args.row (omega (arith, c.if-at-len.true, c.len.ensures)) c.index_mut.ensures.value c.in_ok-push.ensures.items

pub returns-clause-lists : goal.returns-clause-lists
returns-clause-lists c =
    ap (map items_in) c.in_ok-push-3.ensures.items
    ∙ end_pushed c.args.at c.args.lists.now.items _ c.args.row (omega (arith, c.if-at-len.false, c.len.ensures)) (c.in_ok-push-2.ensures.items ∙ ap (λ l. l ++ c.args.row ∷ []) c.new-list.ensures.items)
