use Rattle.std.proofs.Common.{◌≡◌, false, drop}
use Rattle.std.specs.List.{list_all, list_any}
use Rattle.cad_extents.specs.Extents.{IsWithin}
use Rattle.cad_feature.specs.Features.{Item}
use Rattle.cad_lookup.specs.Candidates.{is_candidate}
use Rattle.cad_run.proofs.presence.+presence.Given as goal

-- what fails the plans that are left fails all
abbrev pub invariant-all_may_have-loop-plan : goal.invariant-all_may_have-loop-plan
invariant-all_may_have-loop-plan l = (x : Item) → list_all (λ p. is_candidate p x) (drop l.plan-index l.plans) ≡ false → list_all (λ p. is_candidate p x) l.plans ≡ false

-- the plans that are left decide
abbrev pub invariant-any_may_have-loop-plan : goal.invariant-any_may_have-loop-plan
invariant-any_may_have-loop-plan l = (x : Item) → IsWithin l.extents x → list_any (λ p. is_candidate p x) (drop l.plan-index l.plans) ≡ list_any (λ p. is_candidate p x) l.plans
