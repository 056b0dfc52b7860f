use Rattle.cad_lookup.specs.Candidates.{candidate_Empty, candidate_Join, candidate_Meet, candidate_Near, candidate_Range}
use Rattle.cad_run.proofs.presence.+presence.Goals as goal

pub may_have-returns-in-Empty : goal.may_have-returns-in-Empty
may_have-returns-in-Empty t c = λ none x within. rw c.in-Empty.is (candidate_Empty x)

pub may_have-returns-in-Range : goal.may_have-returns-in-Range
may_have-returns-in-Range t c = λ none x within. rw (c.in-Range.is, candidate_Range) (c.may_lie_in.ensures none x within)

pub may_have-returns-in-Near : goal.may_have-returns-in-Near
may_have-returns-in-Near t c = λ none x within. rw (c.in-Near.is, candidate_Near, ← c.of.ensures) (c.may_be_near.ensures none x within)

pub may_have-returns-in-Meet : goal.may_have-returns-in-Meet
may_have-returns-in-Meet t c = λ none x within. rw (c.in-Meet.is, candidate_Meet, ← c.deref.ensures.value) (c.all_may_have.ensures none x within)

pub may_have-returns-in-Join : goal.may_have-returns-in-Join
may_have-returns-in-Join t c = λ none x within. rw (c.in-Join.is, candidate_Join, ← c.deref-in-Join.ensures.value) (c.any_may_have.ensures none x within)
