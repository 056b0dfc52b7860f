-- What holds of every list of tokens.
use Rattle.std.specs.Prelude.{◌≡◌, ◌↔◌, ℕ, ◌⊎◌, List, None}
use Rattle.cql_lexer.specs.Mark.{Mark}
use Rattle.cql_tree.specs.Syntax.{Syntax}
use Rattle.cql_parser.specs.Grammar.{Reads}
use Rattle.cql_parser.specs.Faults.{deep_at, IsShallow, HasFault}
use Rattle.cql_parser.specs.Answer.{IsParsed}
use Rattle.cql_tree.specs.Order.{Ascend, IsOrdered}
use Rattle.cql_parser.specs.declared.fault.GrammarFault.{GrammarFault}

-- tokens have one tree
abbrev pub HasOneTree : Type 0
HasOneTree = (tokens : List Mark) (a b : Syntax) → Reads tokens a → Reads tokens b → a ≡ b

-- tokens are a filter or have a fault
abbrev pub HasTreeOrFault : Type 0
HasTreeOrFault =
    (tokens : List Mark) (end : ℕ) →
    ((tree : Syntax) × IsParsed tokens tree) ⊎ ((fault : GrammarFault) × HasFault tokens end fault)

-- tokens with a fault are not a filter
abbrev pub HasFaultOrTree : Type 0
HasFaultOrTree =
    (tokens : List Mark) (end : ℕ) (fault : GrammarFault) (tree : Syntax) → HasFault tokens end fault → ¬ IsParsed tokens tree

-- tokens have at most one fault
abbrev pub HasOneFault : Type 0
HasOneFault =
    (tokens : List Mark) (end : ℕ) (fault other : GrammarFault) →
    HasFault tokens end fault → HasFault tokens end other → fault ≡ other

-- the count of open parentheses stays within 64 exactly if no tokens in a row open over 64 more than they close
abbrev pub CountsOpen : Type 0
CountsOpen = (tokens : List Mark) → ((deep_at 0 tokens ≡ None) ↔ IsShallow tokens)

-- a tree's places ascend in the order of reading if its tokens' places do
abbrev pub HasPlacesInOrder : Type 0
HasPlacesInOrder = (tokens : List Mark) (tree : Syntax) → Reads tokens tree → Ascend 0 tokens → IsOrdered tree
