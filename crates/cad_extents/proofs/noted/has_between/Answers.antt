use Rattle.std.proofs.Common.{rules}
use Rattle.cad_extents.proofs.PlaceLemmas.{no_number, one_more}
use Rattle.cad_extents.proofs.noted.has_between.Goals as goal

pub loop-offset-preserved : goal.loop-offset-preserved
loop-offset-preserved c = λ n low below marked. one_more c.args.marks.now _ c.loop-offset.offset c.in-Some.number (search rules) (search rules) c.loop-offset.invariant n low below marked

pub returns-then-number-high : goal.returns-then-number-high
returns-then-number-high c = λ none d marked. no_number c.args.marks.now c.args.low c.args.high c.loop-offset.offset c.in-Some.number (search rules) (search rules)
    (λ n above below at. c.loop-offset.invariant n (search rules) (search rules) at) d marked
