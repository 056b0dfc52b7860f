-- What holds of every tree and its faults.
use Rattle.std.specs.Prelude.{◌≡◌, ◌⊎◌, List}
use Rattle.cad_schema.specs.Attributes.{Named}
use Rattle.cql_tree.specs.Order.{IsOrdered}
use Rattle.cql_tree.specs.Syntax.{Syntax}
use Rattle.cql_types.specs.Conditions.{condition_in}
use Rattle.cql_types.specs.Kinds.{IsCondition, IsFault, IsLeast}
use Rattle.cql_types.specs.Means.{IsFilter}
use Rattle.cql_types.specs.declared.fault.Fault.{Fault}
use Rattle.cql_types.specs.declared.filter.Filter.{Filter}

-- a condition has no fault
abbrev pub HasFaultOrCondition : Type 0
HasFaultOrCondition = (s : List Named) (t : Syntax) (f : Fault) → IsCondition s t → ¬ IsFault s t f

-- a tree whose places ascend is a condition or has a fault with the least place: it is impossible that neither holds
abbrev pub HasConditionOrFault : Type 0
HasConditionOrFault = (s : List Named) (t : Syntax) → IsOrdered t → ¬ ¬ (IsCondition s t ⊎ ((f : Fault) × IsLeast s t f))

-- and only one of all faults has the least place
abbrev pub HasOneLeastFault : Type 0
HasOneLeastFault = (s : List Named) (t : Syntax) (f g : Fault) → IsOrdered t → IsLeast s t f → IsLeast s t g → f ≡ g

-- a tree means a filter only if the tree is a condition
abbrev pub HasFiltersOfConditions : Type 0
HasFiltersOfConditions = (s : List Named) (t : Syntax) (x : Filter) → IsFilter s t x → IsCondition s t

-- a tree means at most one filter, apart from its place in memory
abbrev pub HasOneFilter : Type 0
HasOneFilter = (s : List Named) (t : Syntax) (x y : Filter) → IsFilter s t x → IsFilter s t y → condition_in x ≡ condition_in y
