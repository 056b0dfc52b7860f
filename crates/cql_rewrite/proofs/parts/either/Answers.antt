use Rattle.std.proofs.Common.{◌∙◌}
use Rattle.cql_rewrite.specs.Meets.{meets}
use Rattle.cql_rewrite.proofs.Forms.{two_any}
use Rattle.cql_rewrite.proofs.AtomLemmas.{plain_none}
use Rattle.cql_rewrite.proofs.parts.either.Goals as goal

pub returns-clause-stands : goal.returns-clause-stands
returns-clause-stands c = λ x.
    c.some_of.ensures.stands x
    ∙ two_any (meets x) c.new-parts.result.items c.add_either.new.parts.items c.add_either-2.new.parts.items (meets x c.args.first) (meets x c.args.second) c.new-parts.ensures.items (c.in_default.ensures.stands x) (c.in_ok-add_either.ensures.stands x)

pub returns-clause-atoms : goal.returns-clause-atoms
returns-clause-atoms c = λ h k. c.some_of.ensures.atoms (c.in_ok-add_either.ensures.atoms (c.in_default.ensures.atoms (plain_none c.new-parts.ensures.items) h) k)
