use Rattle.std.proofs.Common.{◌∙◌}
use Rattle.cad_io.proofs.NumberLemmas.{short_number_in}
use Rattle.cad_io.proofs.digits.short_number.Goals as goal

pub returns : goal.returns
returns c = c.number.ensures.value ∙ short_number_in c.args.digits.now c.requires
