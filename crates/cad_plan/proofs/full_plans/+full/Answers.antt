use Rattle.std.proofs.Common.{◌∙◌, ap, sym, map, drop, ◌∷◌, ◌++◌, [], ◌+◌, arith}
use Rattle.cad_lookup.specs.WayLaws.{way_Join, way_Meet}
use Rattle.cad_lookup.specs.Ways.{join_of, meet_of, way_of, ways_in}
use Rattle.cad_plan.specs.Leaves.{full_way}
use Rattle.cad_plan.proofs.LeafLemmas.{full_And, full_Or}
use Rattle.cad_plan.proofs.ListLemmas.{done, map_next, map_over, map_push, moved}
use Rattle.cad_plan.proofs.full_plans.+full.Goals as goal

pub full_plan-returns-in_ok-plans-in-And : goal.full_plan-returns-in_ok-plans-in-And
full_plan-returns-in_ok-plans-in-And m c =
    way_Meet c.in_ok-plans-in-And.plans ∙ ap (λ ws. meet_of (ways_in ws)) (rw c.deref.ensures.value at c.in_ok-plans-in-And.ensures)
    ∙ sym (ap full_way c.in-And.is ∙ full_And c.in-And.parts)

pub full_plan-returns-in_ok-plans-in-Or : goal.full_plan-returns-in_ok-plans-in-Or
full_plan-returns-in_ok-plans-in-Or m c =
    way_Join c.in_ok-plans-in-Or.plans ∙ ap (λ ws. join_of (ways_in ws)) (rw c.deref-in-Or.ensures.value at c.in_ok-plans-in-Or.ensures)
    ∙ sym (ap full_way c.in-Or.is ∙ full_Or c.in-Or.parts)

pub full_plans-loop-part-preserved : goal.full_plans-loop-part-preserved
full_plans-loop-part-preserved m c =
    let old = map way_of c.loop-part.plans.items in
    let more = ap (map way_of) c.in_ok-push.ensures.items ∙ map_push way_of c.loop-part.plans.items c.in_ok-plan.plan ∙ ap (λ w. old ++ w ∷ []) c.in_ok-plan.ensures in
    moved old (map way_of c.push.new.self.items) (map full_way (drop c.loop-part.part-index c.args.parts.now)) (map full_way (drop (c.loop-part.part-index + 1) c.args.parts.now)) _ (full_way c.part-item.result) more
    (map_next full_way c.args.parts.now c.loop-part.part-index c.part-item.result c.loop-part-test.true c.part-item.is) c.loop-part.invariant

pub full_plans-returns : goal.full_plans-returns
full_plans-returns m c =
    done (map way_of c.loop-part.plans.items) _ _ (map_over full_way c.args.parts.now c.loop-part.part-index (omega (arith, c.loop-part-test.false))) c.loop-part.invariant
