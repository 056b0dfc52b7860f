-- The rest of a source whose first feature is looked at before it is taken, and the place of a change in it.
use Rattle.std.specs.Prelude.{Bool, true, not, List, [], ◌∷◌, if◌then◌else◌}
use Rattle.std.specs.Option.{option_copied}
use Rattle.std.specs.Ordering.{is_eq, is_gt}
use Rattle.cad_feature.specs.Features.{Item, by_identifier}
use Rattle.cad_run.specs.declared.peeked.Peeked.{Peeked}
use Rattle.cad_run.specs.Positions.{found_then}

-- the rest of the source, behind the feature that was looked at
abbrev pub peeked_left : {S : Type 0} → (S → List Item) → Peeked S → List Item
peeked_left left p = found_then (option_copied p.front) (left p.source)

-- the change is before all of them, or replaces the first
abbrev pub stands_first : Item → List Item → Bool
stands_first c [] = true
stands_first c (b ∷ bs) = not (is_gt (by_identifier c b))

-- the rest if the change replaces the first
abbrev pub without : Item → List Item → List Item
without c [] = []
without c (b ∷ bs) = if is_eq (by_identifier c b) then bs else (b ∷ bs)
