-- What holds of every text.
use Rattle.std.specs.Prelude.{◌≡◌, ℕ, ◌⊎◌, List}
use Rattle.cad_schema.specs.Attributes.{Named}
use Rattle.cql_types.specs.Conditions.{condition_in}
use Rattle.cql_types.specs.declared.filter.Filter.{Filter}
use Rattle.cql_filter.specs.Filters.{IsAccepted, IsFilterOf, IsFirstFault}
use Rattle.cql_filter.specs.declared.cause.Cause.{Cause}

-- a text is a filter or has a first fault: it is impossible that neither holds
abbrev pub HasFilterOrFault : Type 0
HasFilterOrFault =
    (schema : List Named) (text : List ℕ) → ¬ ¬ (IsAccepted schema text ⊎ ((cause : Cause) × IsFirstFault schema text cause))

-- and never both
abbrev pub HasFaultOrFilter : Type 0
HasFaultOrFilter = (schema : List Named) (text : List ℕ) (cause : Cause) → IsFirstFault schema text cause → ¬ IsAccepted schema text

-- a text has at most one first fault
abbrev pub HasOneFirstFault : Type 0
HasOneFirstFault =
    (schema : List Named) (text : List ℕ) (cause other : Cause) → IsFirstFault schema text cause → IsFirstFault schema text other →
    cause ≡ other

-- only a text that is accepted spells a filter
abbrev pub HasFiltersOfAccepted : Type 0
HasFiltersOfAccepted = (schema : List Named) (text : List ℕ) (filter : Filter) → IsFilterOf schema text filter → IsAccepted schema text

-- a text spells at most one filter, apart from its place in memory
abbrev pub HasOneFilter : Type 0
HasOneFilter =
    (schema : List Named) (text : List ℕ) (x y : Filter) → IsFilterOf schema text x → IsFilterOf schema text y → condition_in x ≡ condition_in y
