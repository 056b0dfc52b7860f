use Rattle.std.proofs.Common.{arith}
use Rattle.cql_rewrite.proofs.Least.{least_under}
use Rattle.cql_rewrite.proofs.likes.liked.Goals as goal

pub returns-in-Some-clause-stands : goal.returns-in-Some-clause-stands
returns-in-Some-clause-stands c = λ x h. rw h (rw c.in-Some.is at (c.in_ok-form.ensures.stands x))

pub returns-in_ok-condition-in-None-clause-stands : goal.returns-in_ok-condition-in-None-clause-stands
returns-in_ok-condition-in-None-clause-stands c = λ x h. c.in_ok-condition-in-None.ensures.stands x.item

pub returns-in_ok-condition-in-None-clause-costs : goal.returns-in_ok-condition-in-None-clause-costs
returns-in_ok-condition-in-None-clause-costs c = λ t. omega (arith, least_under t c.in_ok-condition-in-None.condition, rw c.in-None.is at (c.in_ok-form.ensures.costs t))
