use Rattle.cad_lookup.specs.Candidates.{candidate_Meet, candidate_Join}
use Rattle.cad_run.proofs.candidacy.+candidacy.Goals as goal

pub is_candidate-returns-in-Meet : goal.is_candidate-returns-in-Meet
is_candidate-returns-in-Meet t c = rw (c.in-Meet.is, candidate_Meet, ← c.deref.ensures.value) c.is_candidate_of_all.ensures

pub is_candidate-returns-in-Join : goal.is_candidate-returns-in-Join
is_candidate-returns-in-Join t c = rw (c.in-Join.is, candidate_Join, ← c.deref-in-Join.ensures.value) c.is_candidate_of_any.ensures
