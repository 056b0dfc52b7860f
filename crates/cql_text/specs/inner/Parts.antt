-- A part of a pattern as the code represents it.
use Rattle.cql_text.specs.Patterns.{Piece, any, one, exactly}
use Rattle.cql_text.specs.declared.pattern.Part.{Part}
use Rattle.cql_text.specs.declared.pattern.Part.TheVariants.{Any, One, Exactly}

abbrev pub piece_of : Part → Piece
piece_of Any = any
piece_of One = one
piece_of (Exactly c) = exactly c
