use Rattle.std.proofs.Common.{◌∙◌, sym}
use Rattle.std.proofs.lemmas.List.{nil_from_length}
use Rattle.cql_rewrite.specs.Meets.{meets}
use Rattle.cql_rewrite.proofs.Forms.{all_step, all_stepped}
use Rattle.cql_rewrite.proofs.Least.{least_on, least_stepped}
use Rattle.cql_rewrite.proofs.AtomLemmas.{plain_left, plain_taken}
use Rattle.cql_rewrite.proofs.parts.add_all.Goals as goal

pub loop-part-preserved : goal.loop-part-preserved
loop-part-preserved c = record {
  stands = λ x. all_step (meets x) c.loop-part.parts.items c.add_one.new.parts.items c.loop-part.part-iterator.rest.items c.next.new.self.rest.items c.in-Some.part c.in-Some.ensures.steps.0 (c.in_ok-add_one.ensures.stands x) (c.loop-part.invariant.stands x);
  costs = λ t. least_on t c.loop-part.parts.items c.add_one.new.parts.items c.loop-part.part-iterator.rest.items c.next.new.self.rest.items c.in-Some.part c.in-Some.ensures.steps.0 (c.in_ok-add_one.ensures.costs t) (c.loop-part.invariant.costs t);
  atoms = λ h k.
      let so_far = c.loop-part.invariant.atoms h k in
      (c.in_ok-add_one.ensures.atoms so_far.0 (plain_taken _ _ c.in-Some.part c.in-Some.ensures.steps.0 so_far.1), plain_left _ _ c.in-Some.part c.in-Some.ensures.steps.0 so_far.1);
}

pub returns-clause-stands : goal.returns-clause-stands
returns-clause-stands c = λ x. all_stepped (meets x) c.loop-part.parts.items c.loop-part.part-iterator.rest.items (nil_from_length c.loop-part.part-iterator.rest.items (sym c.loop-part.part-iterator.rest.ok.0 ∙ c.in-None.ensures.steps.0)) (c.loop-part.invariant.stands x)

pub returns-clause-costs : goal.returns-clause-costs
returns-clause-costs c = λ t. least_stepped t c.loop-part.parts.items c.loop-part.part-iterator.rest.items (nil_from_length c.loop-part.part-iterator.rest.items (sym c.loop-part.part-iterator.rest.ok.0 ∙ c.in-None.ensures.steps.0)) (c.loop-part.invariant.costs t)

pub returns-clause-atoms : goal.returns-clause-atoms
returns-clause-atoms c = λ h k. (c.loop-part.invariant.atoms h k).0
