-- The numbers, names and places of the faults of a text.
use Rattle.std.specs.Prelude.{ℕ, Option, Some, None, List, codes}
use Rattle.cql_lexer.specs.declared.fault.SpellingFault.{SpellingFault}
use Rattle.cql_lexer.specs.declared.fault.SpellingFault.TheVariants.{Unterminated, StrangeCharacter, TooLong, TooMany}
use Rattle.cql_lexer.specs.declared.fault.LexFault.{LexFault}
use Rattle.cql_lexer.specs.declared.fault.LexFault.TheVariants.{At, Memory}

-- what programs report of a fault
pub record Label : Type 0 where
  pub number : ℕ
  pub name : List ℕ
  pub place : ℕ

abbrev pub label_of : SpellingFault → Label
label_of (Unterminated place) = record { number = 1; name = codes "Unterminated"; place = place }
label_of (StrangeCharacter place) = record { number = 2; name = codes "StrangeCharacter"; place = place }
label_of (TooLong place) = record { number = 3; name = codes "TooLong"; place = place }
label_of (TooMany place) = record { number = 4; name = codes "TooMany"; place = place }

abbrev pub number_of : LexFault → ℕ
number_of (At fault) = (label_of fault).number
number_of Memory = 5

abbrev pub name_of : LexFault → List ℕ
name_of (At fault) = (label_of fault).name
name_of Memory = codes "Memory"

-- out of memory has no place
abbrev pub place_of : LexFault → Option ℕ
place_of (At fault) = Some (label_of fault).place
place_of Memory = None
