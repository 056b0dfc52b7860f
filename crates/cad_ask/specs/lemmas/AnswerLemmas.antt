-- Pairs that ask for something have no fault.
use Rattle.std.specs.Prelude.{ℕ, List, Option, Some, None, IfSome}
use Rattle.cad_schema.specs.declared.collection.Collection.{Collection}
use Rattle.cad_schema.specs.Schema.{schema_of}
use Rattle.cql_types.specs.declared.filter.Filter.{Filter}
use Rattle.cql_filter.specs.Filters.{IsAccepted}
use Rattle.cad_parameters.specs.Pairs.{PairText}
use Rattle.cad_ask.specs.declared.ask.Ask.{Ask}
use Rattle.cad_ask.specs.Answers.{filter_given, IsFilterGiven, IsAsk, AsksWell}

pub filter_accepted : (c : Collection) (text : Option (List ℕ)) (filter : Option Filter) → IsFilterGiven c text filter → IfSome text (IsAccepted (schema_of c))
filter_accepted c None None is = tt
filter_accepted c None (Some filter) is = absurd is
filter_accepted c (Some text) None is = absurd is
filter_accepted c (Some text) (Some filter) is = is.0

pub asks_well : (c : Collection) (pairs : List PairText) (ask : Ask) → IsAsk c pairs ask → AsksWell c pairs
asks_well c pairs ask is = record {
  selects = is.no_selection_fault;
  filters_well = filter_accepted c (filter_given pairs) ask.filter is.filter_is;
  continues = is.no_continuation_fault;
}
