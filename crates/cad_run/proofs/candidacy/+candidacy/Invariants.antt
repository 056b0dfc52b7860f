use Rattle.std.proofs.Common.{◌≡◌, drop}
use Rattle.std.specs.List.{list_all, list_any}
use Rattle.cad_lookup.specs.Candidates.{is_candidate}
use Rattle.cad_run.proofs.candidacy.+candidacy.Given as goal

-- the plans that are left decide
abbrev pub invariant-is_candidate_of_all-loop-plan : goal.invariant-is_candidate_of_all-loop-plan
invariant-is_candidate_of_all-loop-plan l = list_all (λ p. is_candidate p l.feature) (drop l.plan-index l.plans) ≡ list_all (λ p. is_candidate p l.feature) l.plans

abbrev pub invariant-is_candidate_of_any-loop-plan : goal.invariant-is_candidate_of_any-loop-plan
invariant-is_candidate_of_any-loop-plan l = list_any (λ p. is_candidate p l.feature) (drop l.plan-index l.plans) ≡ list_any (λ p. is_candidate p l.feature) l.plans
