-- What the pairs of a query ask of a collection, and their first fault (OGC 17-069r4, 7.15: features; OGC 19-079r2, 6.4: filter; the order of faults: own profile).
use Rattle.std.specs.Prelude.{◌≡◌, ℕ, ◌≤◌, ◌⊎◌, true, List, map, codes, Option, Some, None, Result, Ok, Err, IfSome}
use Rattle.cad_schema.specs.declared.collection.Collection.{Collection}
use Rattle.cad_schema.specs.Schema.{schema_of}
use Rattle.cql_types.specs.declared.filter.Filter.{Filter}
use Rattle.cql_filter.specs.declared.cause.Cause.{Cause}
use Rattle.cql_filter.specs.Causes.{place_of}
use Rattle.cql_filter.specs.Filters.{IsAccepted, IsFilterOf}
use Rattle.cql_filter.specs.Filters as filters
use Rattle.cad_parameters.specs.Pairs.{PairText, pair_text, given}
use Rattle.cad_parameters.specs.declared.fault.ParameterFault.{ParameterFault}
use Rattle.cad_parameters.specs.Parameters.{have, IsSelection, IsContinuation}
use Rattle.cad_ask.specs.declared.ask.Ask.{Ask}
use Rattle.cad_ask.specs.declared.fault.AskFault.{AskFault}
use Rattle.cad_ask.specs.declared.fault.AskFault.TheVariants as fault
use Rattle.cad_ask.specs.Faults.{fault_number, of_parameter, selection_fault, continuation_fault}

-- the text that is given as a filter, if there is one
abbrev pub filter_given : List PairText → Option (List ℕ)
filter_given pairs = given (codes "filter") pairs

-- the filter of the collection that a text writes; none if no text is given
abbrev pub IsFilterGiven : Collection → Option (List ℕ) → Option Filter → Type 0
IsFilterGiven c None None = Unit {0}
IsFilterGiven c None (Some filter) = ⊥
IsFilterGiven c (Some text) None = ⊥
IsFilterGiven c (Some text) (Some filter) = IsAccepted (schema_of c) text × IsFilterOf (schema_of c) text filter

-- the fault of a text that is no filter of the collection: its first one, and its place
pub record IsFilterFault (c : Collection) (text : Option (List ℕ)) (f : AskFault) : Type 0 where
  pub content : List ℕ
  pub cause : Cause
  pub content_is : text ≡ Some content
  pub first : filters.IsFirstFault (schema_of c) content cause
  pub told : f ≡ fault.Filter (place_of cause) cause

-- the pairs have the fault: that of a parameter, or that of the filter's text
abbrev pub HasFault : Collection → List PairText → AskFault → Type 0
HasFault c pairs f =
    ((p : ParameterFault) × (f ≡ of_parameter p) × (have p pairs ≡ true)) ⊎ IsFilterFault c (filter_given pairs) f

-- the pairs have the fault, and none with a lower number
pub record IsLeastFault (c : Collection) (pairs : List PairText) (f : AskFault) : Type 0 where
  pub is_had : HasFault c pairs f
  pub least : (other : AskFault) → HasFault c pairs other → fault_number f ≤ fault_number other

-- what is asked is what the pairs say, and they have no fault
pub record IsAsk (c : Collection) (pairs : List PairText) (ask : Ask) : Type 0 where
  pub collection_is : ask.collection ≡ c
  pub pairs_are : map pair_text ask.pairs.items ≡ pairs
  pub no_selection_fault : selection_fault pairs ≡ None
  pub selection_is : IsSelection pairs ask.selection
  pub filter_is : IsFilterGiven c (filter_given pairs) ask.filter
  pub no_continuation_fault : continuation_fault pairs ≡ None
  pub continuation_is : IsContinuation pairs ask.continuation

-- a text that is given as a filter is a filter of the collection
abbrev pub FiltersWell : Collection → List PairText → Type 0
FiltersWell c pairs = IfSome (filter_given pairs) (IsAccepted (schema_of c))

-- the pairs have no fault
pub record AsksWell (c : Collection) (pairs : List PairText) : Type 0 where
  pub selects : selection_fault pairs ≡ None
  pub filters_well : FiltersWell c pairs
  pub continues : continuation_fault pairs ≡ None

-- the first fault of the pairs: before the filter, of the filter, or after it
pub data IsFirstFault (c : Collection) (pairs : List PairText) : AskFault → Type 0 where
  of_selection : {f : AskFault} → selection_fault pairs ≡ Some f → IsFirstFault c pairs f
  of_filter : {f : AskFault} → selection_fault pairs ≡ None → IsFilterFault c (filter_given pairs) f → IsFirstFault c pairs f
  of_continuation : {f : AskFault} → selection_fault pairs ≡ None → FiltersWell c pairs → continuation_fault pairs ≡ Some f
      → IsFirstFault c pairs f

-- the filter, or the fault of its text, or out of memory
abbrev pub AnswersFilter : Collection → Option (List ℕ) → Result (Option Filter) AskFault → Type 0
AnswersFilter c text (Ok filter) = IsFilterGiven c text filter
AnswersFilter c text (Err f) = (f ≡ fault.Memory) ⊎ IsFilterFault c text f

-- what the pairs ask, or their first fault, or out of memory
abbrev pub Answers : Collection → List PairText → Result Ask AskFault → Type 0
Answers c pairs (Ok ask) = IsAsk c pairs ask
Answers c pairs (Err f) = (f ≡ fault.Memory) ⊎ IsFirstFault c pairs f

-- the answer is as said, unless memory ran out
abbrev pub OrMemory : Result Ask AskFault → Type 0 → Type 0
OrMemory result said = (result ≡ Err fault.Memory) ⊎ said
