-- The elements of a list that changes to it replace.
use Rattle.std.specs.Prelude.{List, [], ◌∷◌, ◌++◌, filter}
use Rattle.std.specs.Ordering.{is_eq}
use Rattle.std.specs.declared.cmp.Ordering.{Ordering}

-- the elements of the base that are equal to it
abbrev pub twins : {X : Type 0} → (X → X → Ordering) → X → List X → List X
twins cmp c base = filter (λ b. is_eq (cmp c b)) base

-- the elements of the base that changes replace, in the order of the changes
abbrev pub replaced_in : {X : Type 0} → (X → X → Ordering) → List X → List X → List X
replaced_in cmp base [] = []
replaced_in cmp base (c ∷ cs) = twins cmp c base ++ replaced_in cmp base cs
