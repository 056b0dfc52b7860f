use Rattle.cql_parser.proofs.Turns.{comma_goes, comma_stops}
use Rattle.cql_parser.proofs.slot.pass_comma.Goals as goal

pub returns-in-Some-clause-passes : goal.returns-in-Some-clause-passes
returns-in-Some-clause-passes c = λ a. comma_goes a _ _ c.in-Some.ensures.found

pub returns-in-None-clause-passes : goal.returns-in-None-clause-passes
returns-in-None-clause-passes c = λ a. comma_stops a _ c.in-None.ensures.none
