-- What holds of lists with changes merged into them, and of lists that ascend.
use Rattle.std.specs.Prelude.{◌≡◌, ℤ, List, Option}
use Rattle.std.specs.List.Sorted.{IsStrictlySortedBy}
use Rattle.cad_feature.specs.Features.{Item, by_identifier}
use Rattle.cad_layer.specs.Identifiers.{IsTheOne}
use Rattle.cad_layer.specs.Merging.{merged}

-- changes may be merged with one another before they are merged with what they change
abbrev pub ChangesAdd : Type 0
ChangesAdd = (base changes more : List Item)
    → merged by_identifier base (merged by_identifier changes more) ≡ merged by_identifier (merged by_identifier base changes) more

-- in a list that ascends at most one feature has a given identifier
abbrev pub IdentifiersAreUnique : Type 0
IdentifiersAreUnique =
    (wanted : ℤ × ℤ) (xs : List Item) (one other : Option Item) → IsStrictlySortedBy by_identifier xs
    → IsTheOne wanted xs one → IsTheOne wanted xs other → one ≡ other
