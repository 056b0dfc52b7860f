use Rattle.std.proofs.Common.{length, ◌≡◌, ◌+◌, ◌*◌, ◌++◌, drop, map, filter, min}
use Rattle.cad_lookup.specs.Ways.{cost, counts_of, min_of, most, total, way_of}
use Rattle.cql_rewrite.specs.Menus.{is_narrow}
use Rattle.cad_plan.specs.inner.Pruned.{StandAt, pruned}
use Rattle.cad_plan.proofs.LeafLemmas.{leaves_of_plans}
use Rattle.cad_plan.proofs.Weights.{weight, weight_of_parts}
use Rattle.cad_plan.proofs.choosing.+choose.Given as goal

-- with the choices that are left the plans are all; the cost is that of the plans so far; the counts of the parts that are left stand here
abbrev pub invariant-joined-loop-part : goal.invariant-joined-loop-part
invariant-joined-loop-part l =
    let counts = counts_of l.features.features in
    record {
      ways : map way_of l.plans.items ++ map (pruned counts) (map way_of (drop l.part-index l.parts)) ≡ map (pruned counts) (map way_of l.parts);
      cost : l.cost ≡ min most (total (map (cost counts) (map way_of l.plans.items)));
      stand : StandAt (leaves_of_plans counts (drop l.part-index l.parts)) l.counts l.at;
      passed : l.at + length (leaves_of_plans counts (drop l.part-index l.parts)) ≡ l.fn.at + length (leaves_of_plans counts l.parts);
    }

abbrev pub invariant-narrow-loop-part : goal.invariant-narrow-loop-part
invariant-narrow-loop-part l =
    let counts = counts_of l.features.features in
    record {
      ways : map way_of l.narrow.plans.items ++ filter is_narrow (map (pruned counts) (map way_of (drop l.part-index l.parts))) ≡ filter is_narrow (map (pruned counts) (map way_of l.parts));
      cost : l.narrow.cost ≡ min_of (length l.features.features) (map (cost counts) (map way_of l.narrow.plans.items));
      stand : StandAt (leaves_of_plans counts (drop l.part-index l.parts)) l.counts l.at;
      passed : l.at + length (leaves_of_plans counts (drop l.part-index l.parts)) ≡ l.fn.at + length (leaves_of_plans counts l.parts);
    }

abbrev pub decreases-chosen : goal.decreases-chosen
decreases-chosen l = 2 * weight (way_of l.full.now)

abbrev pub decreases-narrow : goal.decreases-narrow
decreases-narrow l = 2 * weight_of_parts l.parts.now + 1

abbrev pub decreases-joined : goal.decreases-joined
decreases-joined l = 2 * weight_of_parts l.parts.now + 1
