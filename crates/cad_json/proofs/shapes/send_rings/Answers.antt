use Rattle.std.proofs.Common.{◌≡◌, [], map, drop, Some, sym, subst, arith}
use Rattle.std.proofs.lemmas.List.{drop_all}
use Rattle.std.proofs.lemmas.Result.{on_ok_weaker}
use Rattle.serde.specs.Event.{Logs, seq_begins}
use Rattle.serde_json.specs.View.{items_of}
use Rattle.serde_json.specs.Events.{SendsItems}
use Rattle.cad_json.specs.Sent.{AreItemsOfWholes}
use Rattle.cad_json.specs.Shapes.{ring_data}
use Rattle.cad_json.proofs.SendLemmas.{items_count}
use Rattle.cad_json.proofs.shapes.send_rings.Goals as goal

pub returns : goal.returns
returns g c =
    let w = g.S.Serializer.written in
    let xs = c.args.rings.now in
    let first = w c.begin_seq.new.self in
    let begun = subst (λ n. Logs (w c.args.out.now) first (seq_begins (Some n))) (sym (items_count ring_data xs)) c.in_ok-begin_seq.ensures in
    let none : drop c.loop-ring.ring-index xs ≡ [] = drop_all c.loop-ring.ring-index xs (omega arith) in
    let end = w c.end_seq.new.self in
    on_ok_weaker c.end_seq.result (λ e. (
      (first, begun, c.loop-ring.invariant.sent end (subst (λ ys. SendsItems (items_of (map ring_data ys)) (w c.loop-ring.out) end) (sym none) e)),
      c.loop-ring.invariant.whole (subst (λ ys. AreItemsOfWholes (items_of (map ring_data ys))) (sym none) tt),
    )) c.end_seq.ensures
