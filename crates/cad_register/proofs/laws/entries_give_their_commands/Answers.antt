use Rattle.cad_register.proofs.JournalLemmas.{entries_give}
use Rattle.cad_register.proofs.laws.entries_give_their_commands.Goals as goal

pub returns : goal.returns
returns c = entries_give
