-- What is wrong with tokens that are not a filter.
use Rattle.std.specs.Prelude.{◌≡◌, ℕ, ◌+◌, ◌-◌, ◌≤◌, List, [], ◌∷◌, ◌++◌, Option, Some, None, if◌then◌else◌, ◌==◌, codes}
use Rattle.cql_lexer.specs.Mark.{Sort, Mark, at, opening, closing}
use Rattle.cql_tree.specs.Syntax.{Syntax}
use Rattle.cql_parser.specs.Grammar.{Reads, IsViable}
use Rattle.cql_parser.specs.declared.fault.GrammarFault.{GrammarFault}
use Rattle.cql_parser.specs.declared.fault.GrammarFault.TheVariants.{TooDeep, NotExpected, EndOfFilter}
use Rattle.cql_parser.specs.declared.fault.ParseFault.{ParseFault}
use Rattle.cql_parser.specs.declared.fault.ParseFault.TheVariants.{At, Memory}

-- the place of the parenthesis that is the 65th open at one time, with n open before (own profile)
abbrev pub deep_at : ℕ → List Mark → Option ℕ
deep_at n [] = None
deep_at n (at p opening ∷ xs) = if n == 64 then Some p else deep_at (n + 1) xs
deep_at n (at p closing ∷ xs) = deep_at (n - 1) xs
deep_at n (at p _ ∷ xs) = deep_at n xs

-- how many parentheses the tokens open
abbrev pub openings : List Mark → ℕ
openings [] = 0
openings (at p opening ∷ xs) = openings xs + 1
openings (at p _ ∷ xs) = openings xs

-- how many parentheses the tokens close
abbrev pub closings : List Mark → ℕ
closings [] = 0
closings (at p closing ∷ xs) = closings xs + 1
closings (at p _ ∷ xs) = closings xs

-- no tokens in a row open over 64 parentheses more than they close
abbrev pub IsShallow : List Mark → Type 0
IsShallow tokens =
    (before part after : List Mark) → tokens ≡ before ++ (part ++ after) → openings part ≤ closings part + 64

-- the last token of the shortest front that no tokens make a filter
pub record IsUnexpected (tokens : List Mark) (place : ℕ) : Type 0 where
  pub before : List Mark
  pub sort : Sort
  pub after : List Mark
  pub is_all : tokens ≡ before ++ at place sort ∷ after
  pub viable : IsViable before
  pub dead : IsViable (before ++ at place sort ∷ []) → ⊥

-- the tokens begin a filter, and are not a filter themselves
pub record IsUnfinished (tokens : List Mark) : Type 0 where
  pub viable : IsViable tokens
  pub unread : (tree : Syntax) → Reads tokens tree → ⊥

-- the tokens of a text that ends there have the fault: depth is checked before the grammar
abbrev pub HasFault : List Mark → ℕ → GrammarFault → Type 0
HasFault tokens end (TooDeep place) = deep_at 0 tokens ≡ Some place
HasFault tokens end (NotExpected place) = (deep_at 0 tokens ≡ None) × IsUnexpected tokens place
HasFault tokens end (EndOfFilter place) = (deep_at 0 tokens ≡ None) × (place ≡ end) × IsUnfinished tokens

-- what programs report of a fault
pub record Label : Type 0 where
  pub number : ℕ
  pub name : List ℕ
  pub place : ℕ

abbrev pub label_of : GrammarFault → Label
label_of (TooDeep place) = record { number = 1; name = codes "TooDeep"; place = place }
label_of (NotExpected place) = record { number = 2; name = codes "NotExpected"; place = place }
label_of (EndOfFilter place) = record { number = 3; name = codes "EndOfFilter"; place = place }

abbrev pub number_of : ParseFault → ℕ
number_of (At fault) = (label_of fault).number
number_of Memory = 4

abbrev pub name_of : ParseFault → List ℕ
name_of (At fault) = (label_of fault).name
name_of Memory = codes "Memory"

-- out of memory has no place
abbrev pub place_of : ParseFault → Option ℕ
place_of (At fault) = Some (label_of fault).place
place_of Memory = None
