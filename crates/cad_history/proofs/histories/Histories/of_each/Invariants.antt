use Rattle.std.proofs.Common.{◌≡◌, Ok, map, take, All}
use Rattle.cad_schema.specs.Collections.{collections}
use Rattle.cad_history.specs.Rows.{Rows}
use Rattle.cad_history.proofs.histories.Histories.of_each.Given as goal

-- There is a history of each collection so far, in their order, and each is what was made for its collection.
abbrev pub invariant-loop-collection : goal.invariant-loop-collection
invariant-loop-collection g l =
    (map (λ (rows : Rows). rows.collection) l.each.items ≡ take l.collection-index collections)
    × All (λ (rows : Rows). goal.F-post g l.make rows.collection (Ok rows)) l.each.items
