-- Lists in an order.
use Rattle.std.specs.Prelude.{List, [], ◌∷◌, if◌then◌else◌}
use Rattle.std.specs.declared.cmp.Ordering.{Ordering}
use Rattle.std.specs.Ordering.{is_gt}

-- inserted before the first element that it does not come after
abbrev pub insert_sorted : {X : Type 0} → (X → X → Ordering) → X → List X → List X
insert_sorted cmp new [] = new ∷ []
insert_sorted cmp new (x ∷ xs) = if is_gt (cmp new x) then x ∷ insert_sorted cmp new xs else new ∷ x ∷ xs

abbrev pub sort_by : {X : Type 0} → (X → X → Ordering) → List X → List X
sort_by cmp [] = []
sort_by cmp (x ∷ xs) = insert_sorted cmp x (sort_by cmp xs)
