use Rattle.cql_parser.proofs.Turns.{text_bound_goes, name_bound_goes, bound_stops}
use Rattle.cql_parser.proofs.slot.take_bound.Goals as goal

pub returns-in-Some-clause-takes : goal.returns-in-Some-clause-takes
returns-in-Some-clause-takes c = λ a. rw c.in_ok-bound.ensures (text_bound_goes a _ _ _ _ c.in-Some.ensures.found)

pub returns-in_ok-bound-in-Some-after_name-clause-takes : goal.returns-in_ok-bound-in-Some-after_name-clause-takes
returns-in_ok-bound-in-Some-after_name-clause-takes c =
    λ a. rw c.in_ok-bound-in-Some-after_name.ensures (name_bound_goes a _ _ _ _ c.in-Some-after_name.ensures.found)

pub returns-in-None-clause-takes : goal.returns-in-None-clause-takes
returns-in-None-clause-takes c = λ a. bound_stops a _ c.in_default.ensures.none c.in-None.ensures.none
