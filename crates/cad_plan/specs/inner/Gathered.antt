-- Ways that are gathered one by one.
use Rattle.std.specs.Prelude.{Bool, if◌then◌else◌, List, [], ◌∷◌, ◌++◌}
use Rattle.cad_lookup.specs.Ways.{Way}

-- one more way, if it is taken
abbrev pub with_if : Bool → List Way → Way → List Way
with_if b ws w = if b then (ws ++ w ∷ []) else ws
