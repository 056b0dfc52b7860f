use Rattle.cad_commands.proofs.WrittenLemmas.{enter_said, enter_written}
use Rattle.cad_commands.proofs.laws.entry_is_said.Goals as goal

pub returns : goal.returns
returns c = enter_written c.args.object c.args.first c.args.body c.area_fits.ensures (enter_said c.args.object c.args.first c.args.body c.written_days_are_read_back.ensures c.area_fits.ensures)
