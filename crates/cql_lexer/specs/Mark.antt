-- A token without its place in memory.
use Rattle.std.specs.Prelude.{ℕ, List, map, string_bytes}
use Rattle.cql_lexer.specs.declared.token.Comparison.{Comparison}
use Rattle.cql_lexer.specs.declared.token.Keyword.{Keyword}
use Rattle.cql_lexer.specs.declared.token.Kind.{Kind}
use Rattle.cql_lexer.specs.declared.token.Kind.TheVariants.{Open, Close, Comma, Plus, Minus, Times, Modulo, Compare, Word, Name, Text, Number}
use Rattle.cql_lexer.specs.declared.token.Token.{Token}

-- what a token is
pub data Sort : Type 0 where
  opening : Sort
  closing : Sort
  comma : Sort
  plus : Sort
  minus : Sort
  times : Sort
  modulo : Sort
  compare : Comparison → Sort
  word : Keyword → Sort
  name : List ℕ → Sort
  text : List ℕ → Sort
  number : List ℕ → Sort

-- a token at its place
pub data Mark : Type 0 where
  at : ℕ → Sort → Mark

abbrev pub sort_of : Kind → Sort
sort_of Open = opening
sort_of Close = closing
sort_of Comma = comma
sort_of Plus = plus
sort_of Minus = minus
sort_of Times = times
sort_of Modulo = modulo
sort_of (Compare c) = compare c
sort_of (Word k) = word k
sort_of (Name s) = name (string_bytes s)
sort_of (Text s) = text (string_bytes s)
sort_of (Number s) = number (string_bytes s)

abbrev pub mark_of : Token → Mark
mark_of t = at t.place (sort_of t.kind)

abbrev pub marks : List Token → List Mark
marks ts = map mark_of ts
