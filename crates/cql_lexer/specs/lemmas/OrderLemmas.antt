-- Places that ascend and are below an end are places that ascend.
use Rattle.std.specs.Prelude.{ℕ, ◌+◌, List, [], ◌∷◌}
use Rattle.cql_lexer.specs.Laws.{AscendWithin}
use Rattle.cql_lexer.specs.Mark.{Mark, at}
use Rattle.cql_lexer.specs.Order.{Ascend}

pub ascends : (first end : ℕ) (tokens : List Mark) → AscendWithin first end tokens → Ascend first tokens
ascends first end [] h = tt
ascends first end (at place sort ∷ tokens) h = (h.0, ascends (place + 1) end tokens h.2)
