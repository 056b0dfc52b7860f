-- How symbols are spelled.
use Rattle.std.specs.Prelude.{◌≡◌, ℕ, Option, Some, List, [], ◌∷◌, ◌++◌, codes}
use Rattle.std.specs.Str.{bytes_eq}
use Rattle.cql_lexer.specs.Mark.{Sort, opening, closing, comma, plus, minus, times, modulo, compare}
use Rattle.cql_lexer.specs.Tables.{entry_of}
use Rattle.cql_lexer.specs.declared.token.Comparison.TheVariants.{Equal, Unequal, Less, Greater, AtMost, AtLeast}

-- the symbols: `comparisonOperator`, `arithmeticOperator` and the punctuation of CQL2's grammar (OGC 21-065r2, Annex B)
abbrev pub symbols : List (List ℕ × Sort)
symbols =
    (codes "(", opening)
    ∷ (codes ")", closing)
    ∷ (codes ",", comma)
    ∷ (codes "+", plus)
    ∷ (codes "-", minus)
    ∷ (codes "*", times)
    ∷ (codes "%", modulo)
    ∷ (codes "=", compare Equal)
    ∷ (codes "<>", compare Unequal)
    ∷ (codes "<", compare Less)
    ∷ (codes ">", compare Greater)
    ∷ (codes "<=", compare AtMost)
    ∷ (codes ">=", compare AtLeast)
    ∷ []

unfoldable pub symbol_of : List ℕ → Option Sort
symbol_of spelling = entry_of bytes_eq symbols spelling

-- the first bytes spell a symbol of the table, and these bytes are left
pub record IsSymbol (xs : List ℕ) (s : Sort) (ys : List ℕ) : Type 0 where
  pub spelling : List ℕ
  pub entry : symbol_of spelling ≡ Some s
  pub is_all : xs ≡ spelling ++ ys
