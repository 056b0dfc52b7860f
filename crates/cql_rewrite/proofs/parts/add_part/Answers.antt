use Rattle.cql_rewrite.specs.Meets.{meets}
use Rattle.cql_rewrite.proofs.Forms.{all_more}
use Rattle.cql_rewrite.proofs.Least.{least_of_all_pushed}
use Rattle.cql_rewrite.proofs.AtomLemmas.{plain_pushed}
use Rattle.cql_rewrite.proofs.parts.add_part.Goals as goal

pub returns-in_ok-add_range-in-Range-clause-stands : goal.returns-in_ok-add_range-in-Range-clause-stands
returns-in_ok-add_range-in-Range-clause-stands c = λ x. rw c.in-Range.is (c.in_ok-add_range-in-Range.ensures.stands x)

pub returns-in_ok-push-in_default : goal.returns-in_ok-push-in_default
returns-in_ok-push-in_default c = record {
  stands = λ x. rw c.in_ok-push-in_default.ensures.items (all_more (meets x) _ _);
  costs = λ t. least_of_all_pushed t _ _ _ c.in_ok-push-in_default.ensures.items;
  atoms = plain_pushed _ _ _ c.in_ok-push-in_default.ensures.items;
}
