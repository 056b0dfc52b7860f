-- The faults of a query, their numbers and names (own profile).
use Rattle.std.specs.Prelude.{ℕ, List, codes, Option, option_map}
use Rattle.cql_filter.specs.declared.cause.FilterFault.{FilterFault}
use Rattle.cql_filter.specs.declared.cause.FilterFault.TheVariants as filter
use Rattle.cql_filter.specs.Causes.{place_of}
use Rattle.cad_parameters.specs.declared.fault.ParameterFault.{ParameterFault}
use Rattle.cad_parameters.specs.declared.fault.ParameterFault.TheVariants as parameter
use Rattle.cad_parameters.specs.Pairs.{PairText}
use Rattle.cad_parameters.specs.Parameters.{first_of, selection_faults, continuation_faults}
use Rattle.cad_ask.specs.declared.fault.AskFault.{AskFault}
use Rattle.cad_ask.specs.declared.fault.AskFault.TheVariants.{Unknown, Repeated, Limit, Datetime, Bbox, FilterLang, Filter, Revision, After, Memory}

abbrev pub fault_number_and_name : AskFault → ℕ × List ℕ
fault_number_and_name Unknown = (1, codes "Unknown")
fault_number_and_name Repeated = (2, codes "Repeated")
fault_number_and_name Limit = (3, codes "Limit")
fault_number_and_name Datetime = (4, codes "Datetime")
fault_number_and_name Bbox = (5, codes "Bbox")
fault_number_and_name FilterLang = (6, codes "FilterLang")
fault_number_and_name (Filter place cause) = (7, codes "Filter")
fault_number_and_name Revision = (8, codes "Revision")
fault_number_and_name After = (9, codes "After")
fault_number_and_name Memory = (10, codes "Memory")

abbrev pub fault_number : AskFault → ℕ
fault_number fault = (fault_number_and_name fault).0

abbrev pub fault_name : AskFault → List ℕ
fault_name fault = (fault_number_and_name fault).1

-- the word in the body of a refusal: if a parameter is wrong, its name
abbrev pub fault_word : AskFault → List ℕ
fault_word Unknown = codes "unknown"
fault_word Repeated = codes "repeated"
fault_word Limit = codes "limit"
fault_word Datetime = codes "datetime"
fault_word Bbox = codes "bbox"
fault_word FilterLang = codes "filter-lang"
fault_word (Filter place cause) = codes "filter"
fault_word Revision = codes "revision"
fault_word After = codes "after"
fault_word Memory = codes "memory"

-- the fault of a parameter
abbrev pub of_parameter : ParameterFault → AskFault
of_parameter parameter.Unknown = Unknown
of_parameter parameter.Repeated = Repeated
of_parameter parameter.Limit = Limit
of_parameter parameter.Datetime = Datetime
of_parameter parameter.Bbox = Bbox
of_parameter parameter.FilterLang = FilterLang
of_parameter parameter.Revision = Revision
of_parameter parameter.After = After

-- the fault of a filter, with its place; or out of memory
abbrev pub of_filter : FilterFault → AskFault
of_filter (filter.Refused cause) = Filter (place_of cause) cause
of_filter filter.Memory = Memory

-- the first of the faults that are looked for before the filter
abbrev pub selection_fault : List PairText → Option AskFault
selection_fault pairs = option_map of_parameter (first_of selection_faults pairs)

-- the first of the faults that are looked for after the filter
abbrev pub continuation_fault : List PairText → Option AskFault
continuation_fault pairs = option_map of_parameter (first_of continuation_faults pairs)
