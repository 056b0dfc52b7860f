use Rattle.std.proofs.Common.{◌∙◌, arith}
use Rattle.cql_rewrite.specs.Meets.{meets}
use Rattle.cql_rewrite.proofs.Forms.{two_all}
use Rattle.cql_rewrite.proofs.AtomLemmas.{plain_none}
use Rattle.cql_rewrite.proofs.parts.both.Goals as goal

pub returns-clause-stands : goal.returns-clause-stands
returns-clause-stands c = λ x.
    c.all_of.ensures.stands x
    ∙ two_all (meets x) c.new-parts.result.items c.add.new.parts.items c.add-2.new.parts.items (meets x c.args.first) (meets x c.args.second) c.new-parts.ensures.items (c.in_default.ensures.stands x) (c.in_ok-add.ensures.stands x)

pub returns-clause-costs : goal.returns-clause-costs
returns-clause-costs c = λ t. omega (arith, c.all_of.ensures.costs t, c.in_default.ensures.costs t, c.in_ok-add.ensures.costs t)

pub returns-clause-atoms : goal.returns-clause-atoms
returns-clause-atoms c = λ h k. c.all_of.ensures.atoms (c.in_ok-add.ensures.atoms (c.in_default.ensures.atoms (plain_none c.new-parts.ensures.items) h) k)
