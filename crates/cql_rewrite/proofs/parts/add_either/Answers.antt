use Rattle.std.proofs.Common.{refl}
use Rattle.std.specs.List.{list_any}
use Rattle.cql_rewrite.specs.Meets.{meets}
use Rattle.cql_rewrite.proofs.Forms.{added_never, any_more}
use Rattle.cql_rewrite.proofs.Least.{either_pushed}
use Rattle.cql_rewrite.proofs.AtomLemmas.{plain_pushed}
use Rattle.cql_rewrite.proofs.parts.add_either.Goals as goal

pub returns-then-is_never-clause-stands : goal.returns-then-is_never-clause-stands
returns-then-is_never-clause-stands c = λ x. added_never x c.args.part (list_any (meets x) c.args.parts.now.items) (c.if-is_never.ensures refl)

pub returns-clause-stands : goal.returns-clause-stands
returns-clause-stands c = λ x. rw c.in_ok-push.ensures.items (any_more (meets x) _ _)

pub returns-clause-costs : goal.returns-clause-costs
returns-clause-costs c = λ t. either_pushed t _ _ _ c.in_ok-push.ensures.items

pub returns-clause-atoms : goal.returns-clause-atoms
returns-clause-atoms c = plain_pushed _ _ _ c.in_ok-push.ensures.items
