use Rattle.cad_commands.proofs.WrittenLemmas.{retire_said, retire_written}
use Rattle.cad_commands.proofs.laws.retirement_is_said.Goals as goal

pub returns : goal.returns
returns c = retire_written c.args.object c.args.last (retire_said c.args.object c.args.last c.written_days_are_read_back.ensures)
