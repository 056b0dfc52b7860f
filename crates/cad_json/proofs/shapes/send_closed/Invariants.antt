use Rattle.std.proofs.Common.{[], ◌∷◌, ◌++◌, map, drop}
use Rattle.serde.specs.Event.{Log}
use Rattle.serde_json.specs.View.{items_of}
use Rattle.serde_json.specs.Events.{SendsItems}
use Rattle.cad_json.specs.Sent.{AreItemsOfWholes}
use Rattle.cad_json.specs.Shapes.{corner_data}
use Rattle.cad_json.proofs.shapes.send_closed.Given as goal

-- whatever ends it well from here ends it well from the start
abbrev pub invariant-loop-corner : goal.invariant-loop-corner
invariant-loop-corner g l = record {
  sent :
      (end : Log) → SendsItems (items_of (map corner_data (drop l.corner-index l.corners ++ l.fn.last ∷ []))) (g.S.Serializer.written l.out) end
      → SendsItems (items_of (map corner_data (l.corners ++ l.fn.last ∷ []))) (g.S.Serializer.written l.initial.out) end;
  whole : AreItemsOfWholes (items_of (map corner_data (drop l.corner-index l.corners ++ l.fn.last ∷ []))) → AreItemsOfWholes (items_of (map corner_data (l.corners ++ l.fn.last ∷ [])));
}
