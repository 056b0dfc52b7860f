use Rattle.std.proofs.Common.{◌≡◌, refl, ◌∷◌, [], ◌++◌, sym, ap, ◌∙◌, append_assoc}
use Rattle.std.specs.Vec.Iter.{into_iter_items}
use Rattle.cql_types.specs.Kinds.{first_not, is_whole}
use Rattle.cql_types.specs.Fits.{whole_fits}
use Rattle.cql_types.specs.Contract.{parts_judged}
use Rattle.cql_types.specs.Means.{marks_of, no_step}
use Rattle.cql_types.proofs.Terms.{more_steps, fits_first, is_true}
use Rattle.cql_types.proofs.collect.collect_steps.Goals as goal

pub loop-step-init : goal.loop-step-init
loop-step-init c = record {
  rest = sym c.into_iter-step-iterator.ensures.into_iter_gives.0;
  are = rw c.new-terms.ensures.items no_step;
  fit = rw c.into_iter-step-iterator.ensures.into_iter_gives.0 refl;
}

pub loop-step-preserved : goal.loop-step-preserved
loop-step-preserved c =
    let steps : into_iter_items c.loop-step.step-iterator ≡ c.in-Some.step ∷ into_iter_items c.next.new.self = c.in-Some.ensures.steps.0 in
    record {
      rest = c.loop-step.invariant.rest ∙ (ap (λ is. c.loop-step.yielded ++ is) steps ∙ sym (append_assoc c.loop-step.yielded (c.in-Some.step ∷ []) _));
      are = rw c.in_ok-push.ensures.items (more_steps c.loop-step.yielded c.in-Some.step c.loop-step.invariant.are c.in_ok-term.ensures.ok);
      fit = c.loop-step.invariant.fit ∙ (ap (λ is. first_not is_whole (marks_of (parts_judged is))) steps
          ∙ fits_first is_whole c.in-Some.step.part (parts_judged (into_iter_items c.next.new.self)) (is_true (whole_fits c.in-Some.step.part.node) c.in_ok-term.ensures.ok));
    }
