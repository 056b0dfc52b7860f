use Rattle.cql_parser.specs.Grammar.{times_multiplies, div_multiplies, modulo_multiplies}
use Rattle.cql_parser.proofs.lookahead.after_multiplication.Goals as goal

pub returns-in-Times-clause-multiplies : goal.returns-in-Times-clause-multiplies
returns-in-Times-clause-multiplies c = times_multiplies

pub returns-in-Word-Div-clause-multiplies : goal.returns-in-Word-Div-clause-multiplies
returns-in-Word-Div-clause-multiplies c = div_multiplies

pub returns-in-Modulo-clause-multiplies : goal.returns-in-Modulo-clause-multiplies
returns-in-Modulo-clause-multiplies c = modulo_multiplies
