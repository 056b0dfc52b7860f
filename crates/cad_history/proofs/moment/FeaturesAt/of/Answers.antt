use Rattle.std.proofs.Common.{◌∙◌, arith}
use Rattle.cad_history.proofs.LentLemmas.{all_newest, in_turn}
use Rattle.cad_history.proofs.moment.FeaturesAt.of.Goals as goal

pub returns-then-revision-from : goal.returns-then-revision-from
returns-then-revision-from c =
    c.newest-then-revision-from.ensures
    ∙ all_newest c.args.history.now c.collection-collection.ensures.rows c.newest.result.now c.newest.ensures.collection c.newest.ensures.rows c.args.revision
    (omega (arith, c.if-revision-from.true, c.from-then-from-revision.ensures)) (omega (arith, c.if-from-revision.true, c.from.ensures, c.last.ensures))

pub invariant_of-result : goal.invariant_of-result
invariant_of-result c =
    in_turn c.args.history.now c.collection-collection.ensures.rows c.newest-2.result.now c.newest-2.ensures.collection c.newest-2.ensures.rows c.earlier.result.now c.earlier.ensures
