use Rattle.std.proofs.Common.{◌≡◌, map, take}
use Rattle.serde_json.specs.View.{view}
use Rattle.cad_json.specs.Offers.{collection_data}
use Rattle.cad_json.proofs.collections.list_json.Given as goal

-- the collections so far are listed
abbrev pub invariant-loop-collection : goal.invariant-loop-collection
invariant-loop-collection l = map view l.list.items ≡ map collection_data (take l.collection-index l.collections)
