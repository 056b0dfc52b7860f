use Rattle.cad_commands.proofs.WrittenLemmas.{amend_said, amend_written}
use Rattle.cad_commands.proofs.laws.amendment_is_said.Goals as goal

pub returns : goal.returns
returns c = amend_written c.args.object c.args.first c.args.body c.area_fits.ensures (amend_said c.args.object c.args.first c.args.body c.written_days_are_read_back.ensures c.area_fits.ensures)
