-- The names and places of first faults.
use Rattle.std.specs.Prelude.{ℕ, List}
use Rattle.cql_lexer.specs.Faults as spelling
use Rattle.cql_lexer.specs.declared.fault.LexFault.{LexFault}
use Rattle.cql_lexer.specs.declared.fault.LexFault.TheVariants as lexer
use Rattle.cql_parser.specs.Faults as grammar
use Rattle.cql_parser.specs.declared.fault.ParseFault.{ParseFault}
use Rattle.cql_parser.specs.declared.fault.ParseFault.TheVariants as parser
use Rattle.cql_types.specs.Faults.{misuse_row}
use Rattle.cql_types.specs.declared.fault.TypeFault.{TypeFault}
use Rattle.cql_types.specs.declared.fault.TypeFault.TheVariants as types
use Rattle.cql_filter.specs.declared.cause.Cause.{Cause}
use Rattle.cql_filter.specs.declared.cause.Cause.TheVariants.{OfLexer, OfParser, OfTypes}
use Rattle.cql_filter.specs.declared.cause.FilterFault.{FilterFault}
use Rattle.cql_filter.specs.declared.cause.FilterFault.TheVariants.{Refused, Memory}

abbrev pub name_of : Cause → List ℕ
name_of (OfLexer fault) = (spelling.label_of fault).name
name_of (OfParser fault) = (grammar.label_of fault).name
name_of (OfTypes fault) = (misuse_row fault.cause).1

abbrev pub place_of : Cause → ℕ
place_of (OfLexer fault) = (spelling.label_of fault).place
place_of (OfParser fault) = (grammar.label_of fault).place
place_of (OfTypes fault) = fault.place

-- what is wrong in the text, or out of memory
abbrev pub of_lexer : LexFault → FilterFault
of_lexer (lexer.At fault) = Refused (OfLexer fault)
of_lexer lexer.Memory = Memory

abbrev pub of_parser : ParseFault → FilterFault
of_parser (parser.At fault) = Refused (OfParser fault)
of_parser parser.Memory = Memory

abbrev pub of_types : TypeFault → FilterFault
of_types (types.At fault) = Refused (OfTypes fault)
of_types types.Memory = Memory
