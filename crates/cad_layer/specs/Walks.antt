-- Lists that ascend by identifier, and changes to them (OGC 17-069r4, 7.15: items).
use Rattle.std.specs.Prelude.{List}
use Rattle.std.specs.List.Sorted.{IsStrictlySortedBy}
use Rattle.cad_feature.specs.Features.{Item, by_identifier}
use Rattle.cad_layer.specs.Merging.{merged}

-- the base with the changes
abbrev pub all_in : List Item → List Item → List Item
all_in base changes = merged by_identifier base changes

-- both ascend
abbrev pub IsInOrder : List Item → List Item → Type 0
IsInOrder base changes = IsStrictlySortedBy by_identifier base × IsStrictlySortedBy by_identifier changes
