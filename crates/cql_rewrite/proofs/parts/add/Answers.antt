use Rattle.std.proofs.Common.{◌∙◌, sym}
use Rattle.cql_rewrite.proofs.Forms.{meets_And}
use Rattle.cql_rewrite.proofs.Least.{least_And}
use Rattle.cql_rewrite.proofs.AtomLemmas.{plain_And}
use Rattle.cql_rewrite.proofs.parts.add.Goals as goal

pub returns-in_ok-add_all-in-And-clause-stands : goal.returns-in_ok-add_all-in-And-clause-stands
returns-in_ok-add_all-in-And-clause-stands c = λ x. rw (c.in-And.is, meets_And) (c.in_ok-add_all-in-And.ensures.stands x)

pub returns-in_ok-add_all-in-And-clause-costs : goal.returns-in_ok-add_all-in-And-clause-costs
returns-in_ok-add_all-in-And-clause-costs c = λ t. rw (c.in-And.is, least_And) (c.in_ok-add_all-in-And.ensures.costs t)

pub returns-in_ok-add_all-in-And-clause-atoms : goal.returns-in_ok-add_all-in-And-clause-atoms
returns-in_ok-add_all-in-And-clause-atoms c = λ h k. c.in_ok-add_all-in-And.ensures.atoms h (sym (plain_And c.in-And.inner) ∙ (rw c.in-And.is at k))
