use Rattle.cad_grid.proofs.SquareLemmas.{none_inside}
use Rattle.cad_grid.proofs.walking.first_inside.Goals as goal

pub returns-else-has_marked_square-clause-passed : goal.returns-else-has_marked_square-clause-passed
returns-else-has_marked_square-clause-passed c = none_inside c.args.marks.now c.args.entries.now c.args.asked c.requires.marked (c.has_marked_square.ensures c.if-has_marked_square.false)
