-- Why a query is refused, as JSON (own profile).
use Rattle.serde_json.specs.Data.{Data}
use Rattle.cql_filter.specs.Causes.{name_of}
use Rattle.cad_json.specs.Faults.{word_data, filter_fault_data}
use Rattle.cad_ask.specs.declared.fault.AskFault.{AskFault}
use Rattle.cad_ask.specs.declared.fault.AskFault.TheVariants.{Filter}
use Rattle.cad_ask.specs.Faults.{fault_word}

-- for a filter, the name of its cause and its place; else the fault's word
abbrev pub fault_data : AskFault → Data
fault_data (Filter place cause) = filter_fault_data (name_of cause) place
fault_data f = word_data (fault_word f)
