-- The result of reading a text.
use Rattle.std.specs.Prelude.{◌≡◌, ℕ, ◌⊎◌, List, Result, Ok, Err}
use Rattle.cad_schema.specs.Attributes.{Named}
use Rattle.cql_types.specs.declared.filter.Filter.{Filter}
use Rattle.cql_filter.specs.Filters.{IsAccepted, IsFilterOf, IsFirstFault}
use Rattle.cql_filter.specs.declared.cause.FilterFault.{FilterFault}
use Rattle.cql_filter.specs.declared.cause.FilterFault.TheVariants.{Refused, Memory}

-- The filter that the text spells, or its first fault.
-- If memory ran out, nothing is said of the text.
abbrev pub Answers : List Named → List ℕ → Result Filter FilterFault → Type 0
Answers schema text (Ok filter) = IsAccepted schema text × IsFilterOf schema text filter
Answers schema text (Err Memory) = Unit {0}
Answers schema text (Err (Refused cause)) = IsFirstFault schema text cause

-- the answer is as said, unless memory ran out
abbrev pub OrMemory : Result Filter FilterFault → Type 0 → Type 0
OrMemory result said = (result ≡ Err Memory) ⊎ said
