use Rattle.std.proofs.Common.{◌≡◌, ℕ, take}
use Rattle.cad_run.specs.inner.Parts.{has_all_parts, has_any_part, all_hold, any_holds}
use Rattle.cad_run.proofs.planned.+plan.Given as goal

abbrev pub invariant-parts_of-loop-plan : goal.invariant-parts_of-loop-plan
invariant-parts_of-loop-plan l = record {
  all : (k : ℕ) → has_all_parts l.parts.items k ≡ all_hold (take l.plan-index l.plans) l.base.features k;
  any : (k : ℕ) → has_any_part l.parts.items k ≡ any_holds (take l.plan-index l.plans) l.base.features k;
}
