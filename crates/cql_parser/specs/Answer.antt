-- The result of parsing.
use Rattle.std.specs.Prelude.{◌≡◌, ℕ, ◌⊎◌, List, [], ◌∷◌, Result, Ok, Err, None}
use Rattle.cql_lexer.specs.Mark.{Mark, at}
use Rattle.cql_tree.specs.Syntax.{Syntax}
use Rattle.cql_parser.specs.Grammar.{Reads}
use Rattle.cql_parser.specs.Faults.{deep_at, HasFault}
use Rattle.cql_tree.specs.Views.{syntax_of}
use Rattle.cql_tree.specs.declared.tree.Tree.{Tree}
use Rattle.cql_parser.specs.declared.fault.GrammarFault.{GrammarFault}
use Rattle.cql_parser.specs.declared.fault.GrammarFault.TheVariants.{NotExpected, EndOfFilter}
use Rattle.cql_parser.specs.declared.fault.ParseFault.{ParseFault}
use Rattle.cql_parser.specs.declared.fault.ParseFault.TheVariants.{At, Memory}

-- the tokens spell this tree and no other
pub record IsReading (tokens : List Mark) (tree : Syntax) : Type 0 where
  pub reads : Reads tokens tree
  pub only : (other : Syntax) → Reads tokens other → other ≡ tree

-- the tokens are a filter, of this tree: few enough parentheses are open, and the grammar reads it
pub record IsParsed (tokens : List Mark) (tree : Syntax) : Type 0 where
  pub shallow : deep_at 0 tokens ≡ None
  pub reads : Reads tokens tree

-- The tree, or the first fault of the tokens of a text that ends there.
-- If memory ran out, nothing is said of the tokens.
abbrev pub Answers : List Mark → ℕ → Result Tree ParseFault → Type 0
Answers tokens end (Ok tree) = (deep_at 0 tokens ≡ None) × IsReading tokens (syntax_of tree.root)
Answers tokens end (Err Memory) = Unit {0}
Answers tokens end (Err (At fault)) = HasFault tokens end fault

-- the answer is as said, unless memory ran out
abbrev pub OrMemory : Result Tree ParseFault → Type 0 → Type 0
OrMemory result said = (result ≡ Err Memory) ⊎ said

-- the fault of a filter that stops before these tokens
abbrev pub fault_of : List Mark → ℕ → GrammarFault
fault_of [] end = EndOfFilter end
fault_of (at p s ∷ xs) end = NotExpected p
