use Rattle.std.proofs.Common.{◌∙◌, ap, sym, nat_lt, length}
use Rattle.cad_lookup.specs.Candidates.{is_candidate}
use Rattle.cad_run.specs.Positions.{holds_at}
use Rattle.cad_run.proofs.PlanLemmas.{all_has, meet_part, join_part}
use Rattle.cad_run.proofs.planned.+plan.Goals as goal

pub part_of-returns-in-All : goal.part_of-returns-in-All
part_of-returns-in-All t c = λ k.
    c.scan.ensures k ∙ ap (λ xs. nat_lt k (length xs)) c.features.ensures.features ∙ all_has c.args.base.now.features k
    ∙ ap (λ p. holds_at (is_candidate p) c.args.base.now.features k) (sym c.in-All.is)

pub part_of-returns-in_ok-source-in-Meet : goal.part_of-returns-in_ok-source-in-Meet
part_of-returns-in_ok-source-in-Meet t c = λ k.
    meet_part c.in-Meet.plans c.args.plan.now _ c.args.base.now.features _ k _ _ c.in-Meet.is c.deref.ensures.value (ap length c.features.ensures.features)
    (c.in_ok-source-in-Meet.ensures k) (c.in_ok-parts-in-Meet.ensures.all k)

pub part_of-returns-in_ok-source-in-Join : goal.part_of-returns-in_ok-source-in-Join
part_of-returns-in_ok-source-in-Join t c = λ k.
    join_part c.in-Join.plans c.args.plan.now _ c.args.base.now.features k _ _ c.in-Join.is c.deref-in-Join.ensures.value
    (c.in_ok-source-in-Join.ensures k) (c.in_ok-parts-in-Join.ensures.any k)
