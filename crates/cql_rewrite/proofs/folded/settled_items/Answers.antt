use Rattle.std.proofs.Common.{◌∙◌, map, ap}
use Rattle.std.proofs.lemmas.List.{take_all}
use Rattle.cql_meaning.specs.Values.{text_value}
use Rattle.cql_rewrite.proofs.FoldedLemmas.{one_more}
use Rattle.cql_rewrite.proofs.folded.settled_items.Goals as goal

pub loop-item-preserved : goal.loop-item-preserved
loop-item-preserved c = λ x.
    one_more x c.args.items.now c.loop-item.terms.items c.push.new.self.items c.loop-item.item-index c.item-item.result c.in_ok-term.term c.loop-item-test.true c.item-item.is c.in_ok-push.ensures.items (c.in_ok-term.ensures x) (c.loop-item.invariant x)

pub returns : goal.returns
returns c = λ x. c.loop-item.invariant x ∙ ap (map (text_value x)) (take_all c.loop-item.item-index c.args.items.now c.loop-item-test.false)
