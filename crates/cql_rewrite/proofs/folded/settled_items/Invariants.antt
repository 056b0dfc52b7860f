use Rattle.std.proofs.Common.{◌≡◌, map, take}
use Rattle.cad_feature.specs.Features.{Item}
use Rattle.cql_meaning.specs.Values.{text_value}
use Rattle.cql_rewrite.proofs.folded.settled_items.Given as goal

-- the terms so far have the values of their items
abbrev pub invariant-loop-item : goal.invariant-loop-item
invariant-loop-item l = (x : Item) → map (text_value x) l.terms.items ≡ map (text_value x) (take l.item-index l.items)
