use Rattle.std.proofs.Common.{◌≡◌, [], map, drop, Some, sym, ◌∙◌, subst, arith, Bor}
use Rattle.std.proofs.lemmas.List.{drop_all, length-map}
use Rattle.std.proofs.lemmas.Result.{on_ok_weaker}
use Rattle.serde.specs.Event.{Logs, seq_begins}
use Rattle.serde_json.specs.View.{items_of}
use Rattle.serde_json.specs.Events.{SendsItems}
use Rattle.cad_feature.specs.declared.feature.Feature.{Feature}
use Rattle.cad_feature.specs.Features.{Item}
use Rattle.cad_json.specs.Sent.{AreItemsOfWholes}
use Rattle.cad_json.specs.Tree.{feature_data}
use Rattle.cad_json.proofs.SendLemmas.{items_count}
use Rattle.cad_json.proofs.features.send_features.Goals as goal

abbrev now : Bor Feature → Item
now x = x.now

pub returns : goal.returns
returns g c =
    let w = g.S.Serializer.written in
    let xs = c.args.features.now in
    let f = feature_data c.args.collection in
    let first = w c.begin_seq.new.self in
    let begun = subst (λ n. Logs (w c.args.out.now) first (seq_begins (Some n))) (sym (items_count f (map now xs) ∙ length-map xs now)) c.in_ok-begin_seq.ensures in
    let none : drop c.loop-feature.feature-index xs ≡ [] = drop_all c.loop-feature.feature-index xs (omega arith) in
    let end = w c.end_seq.new.self in
    on_ok_weaker c.end_seq.result (λ e. (
      (first, begun, c.loop-feature.invariant.sent end (subst (λ ys. SendsItems (items_of (map f (map now ys))) (w c.loop-feature.out) end) (sym none) e)),
      c.loop-feature.invariant.whole (subst (λ ys. AreItemsOfWholes (items_of (map f (map now ys)))) (sym none) tt),
    )) c.end_seq.ensures
