use Rattle.cad_office.proofs.JournalLemmas.{lines_are_commands}
use Rattle.cad_office.proofs.laws.lines_are_the_commands.Goals as goal

pub returns : goal.returns
returns c = lines_are_commands
