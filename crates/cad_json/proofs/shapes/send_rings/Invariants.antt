use Rattle.std.proofs.Common.{map, drop}
use Rattle.serde.specs.Event.{Log}
use Rattle.serde_json.specs.View.{items_of}
use Rattle.serde_json.specs.Events.{SendsItems}
use Rattle.cad_json.specs.Sent.{AreItemsOfWholes}
use Rattle.cad_json.specs.Shapes.{ring_data}
use Rattle.cad_json.proofs.shapes.send_rings.Given as goal

-- whatever ends it well from here ends it well from the start
abbrev pub invariant-loop-ring : goal.invariant-loop-ring
invariant-loop-ring g l = record {
  sent :
      (end : Log) → SendsItems (items_of (map ring_data (drop l.ring-index l.rings))) (g.S.Serializer.written l.out) end
      → SendsItems (items_of (map ring_data l.rings)) (g.S.Serializer.written l.initial.out) end;
  whole : AreItemsOfWholes (items_of (map ring_data (drop l.ring-index l.rings))) → AreItemsOfWholes (items_of (map ring_data l.rings));
}
