-- What texts with their case folded are compared to.
use Rattle.std.specs.Prelude.{ℕ, List}

-- a text with its case folded, to which texts of the property at that place of the schema are compared
pub record FoldedValue : Type 0 where
  pub property : ℕ
  pub text : List ℕ

-- a pattern, to which they are compared with their case folded
pub record PatternOfFolded : Type 0 where
  pub property : ℕ
  pub pattern : List ℕ
