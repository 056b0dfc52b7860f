use Rattle.std.proofs.Common.{◌≡◌, ◌++◌, drop, map}
use Rattle.cad_lookup.specs.Ways.{way_of}
use Rattle.cad_plan.specs.Leaves.{full_way}
use Rattle.cad_plan.proofs.full_plans.+full.Given as goal

-- the plans so far with those of the parts that are left are all
abbrev pub invariant-full_plans-loop-part : goal.invariant-full_plans-loop-part
invariant-full_plans-loop-part l = map way_of l.plans.items ++ map full_way (drop l.part-index l.parts) ≡ map full_way l.parts
