use Rattle.cql_parser.proofs.Turns.{text_goes, text_stops}
use Rattle.cql_parser.proofs.slot.take_text.Goals as goal

pub returns-in-Some-clause-takes : goal.returns-in-Some-clause-takes
returns-in-Some-clause-takes c = λ a. text_goes a _ _ _ _ c.in-Some.ensures.found

pub returns-in-None-clause-takes : goal.returns-in-None-clause-takes
returns-in-None-clause-takes c = λ a. text_stops a _ c.in-None.ensures.none
