use Rattle.std.proofs.Common.{◌≡◌, ◌+◌, [], ◌∷◌, ◌++◌, length, map, drop, Some, sym, ◌∙◌, subst, arith}
use Rattle.std.proofs.lemmas.List.{drop_all, length-append}
use Rattle.std.proofs.lemmas.Result.{on_ok_weaker}
use Rattle.serde.specs.Event.{Logs, seq_begins}
use Rattle.serde_json.specs.View.{items_of}
use Rattle.serde_json.specs.Events.{SendsItems}
use Rattle.cad_json.specs.Sent.{AreItemsOfWholes}
use Rattle.cad_json.specs.Shapes.{corner_data}
use Rattle.cad_json.proofs.SendLemmas.{items_count}
use Rattle.cad_json.proofs.shapes.send_closed.Goals as goal

pub returns : goal.returns
returns g c =
    let w = g.S.Serializer.written in
    let xs = c.args.corners.now in
    let all = xs ++ c.args.last ∷ [] in
    let first = w c.begin_seq.new.self in
    let long : length xs + 1 ≡ length all = sym (length-append xs (c.args.last ∷ [])) in
    let begun = subst (λ n. Logs (w c.args.out.now) first (seq_begins (Some n))) (long ∙ sym (items_count corner_data all)) c.in_ok-begin_seq.ensures in
    let none : drop c.loop-corner.corner-index xs ≡ [] = drop_all c.loop-corner.corner-index xs (omega arith) in
    let end = w c.end_seq.new.self in
    let last = c.in_ok-send_corner-2.ensures in
    on_ok_weaker c.end_seq.result (λ e. (
      (
        first,
        begun,
        c.loop-corner.invariant.sent end
            (subst (λ ys. SendsItems (items_of (map corner_data (ys ++ c.args.last ∷ []))) (w c.loop-corner.out) end) (sym none)
            (w c.send_corner-2.new.out, last.0, e)),
      ),
      c.loop-corner.invariant.whole (subst (λ ys. AreItemsOfWholes (items_of (map corner_data (ys ++ c.args.last ∷ [])))) (sym none) (last.1, tt)),
    )) c.end_seq.ensures
