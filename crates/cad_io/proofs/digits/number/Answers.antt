use Rattle.std.proofs.Common.{rules}
use Rattle.cad_io.proofs.NumberLemmas.{one_digit_more}
use Rattle.cad_io.proofs.digits.number.Goals as goal

pub loop-digit-preserved : goal.loop-digit-preserved
loop-digit-preserved c =
    one_digit_more c.args.digits.now c.loop-digit.digit-index c.loop-digit.number c.one_more-number.result
    (search rules) c.loop-digit.invariant (search rules) c.one_more-number.ensures
