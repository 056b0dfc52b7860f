-- The last of features that ascend.
use Rattle.std.specs.Prelude.{◌≡◌, ◌<◌, ℤ, Bool, true, List, [], length, filter, Option, Some, None}
use Rattle.std.specs.Ordering.{is_eq, is_gt}
use Rattle.cad_versions.specs.Identifiers.{identifier_cmp}
use Rattle.cad_feature.specs.Features.{Item}
use Rattle.cad_layer.specs.Identifiers.{compared}
use Rattle.cad_run.specs.Slices.{later}

-- it has this identifier
abbrev pub is_named : ℤ × ℤ → Item → Bool
is_named last x = is_eq (compared last x)

-- the identifier of the last of them: one has it, and none comes after it
abbrev pub IsEnd : Option (ℤ × ℤ) → List Item → Type 0
IsEnd None xs = xs ≡ []
IsEnd (Some last) xs = (0 < length (filter (is_named last) xs)) × (later (Some last) xs ≡ [])

-- the identifier comes after the named one, if there is one
abbrev pub is_beyond : Option (ℤ × ℤ) → ℤ × ℤ → Bool
is_beyond None last = true
is_beyond (Some named) last = is_gt (identifier_cmp last named)
