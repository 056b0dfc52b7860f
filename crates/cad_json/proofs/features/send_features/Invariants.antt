use Rattle.std.proofs.Common.{map, drop}
use Rattle.serde.specs.Event.{Log}
use Rattle.serde_json.specs.View.{items_of}
use Rattle.serde_json.specs.Events.{SendsItems}
use Rattle.cad_json.specs.Sent.{AreItemsOfWholes}
use Rattle.cad_json.specs.Tree.{feature_data}
use Rattle.cad_json.proofs.features.send_features.Given as goal

-- whatever ends it well from here ends it well from the start
abbrev pub invariant-loop-feature : goal.invariant-loop-feature
invariant-loop-feature g l = record {
  sent :
      (end : Log) → SendsItems (items_of (map (feature_data l.collection) (map (λ x. x.now) (drop l.feature-index l.features)))) (g.S.Serializer.written l.out) end
      → SendsItems (items_of (map (feature_data l.collection) (map (λ x. x.now) l.features))) (g.S.Serializer.written l.initial.out) end;
  whole :
      AreItemsOfWholes (items_of (map (feature_data l.collection) (map (λ x. x.now) (drop l.feature-index l.features))))
      → AreItemsOfWholes (items_of (map (feature_data l.collection) (map (λ x. x.now) l.features)));
}
