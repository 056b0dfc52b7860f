use Rattle.cql_parser.proofs.Turns.{digits_go, digits_stop}
use Rattle.cql_parser.proofs.slot.take_digits.Goals as goal

pub returns-in_ok-number-in-Some-clause-takes : goal.returns-in_ok-number-in-Some-clause-takes
returns-in_ok-number-in-Some-clause-takes c =
    λ k. rw c.in_ok-number-in-Some.ensures (digits_go _ k _ _ _ _ c.in-Some.ensures.found)

pub returns-in-None-clause-takes : goal.returns-in-None-clause-takes
returns-in-None-clause-takes c = λ k. digits_stop _ k _ c.in-None.ensures.none
