use Rattle.cad_register.proofs.JournalOrderLemmas.{listings_give}
use Rattle.cad_register.proofs.laws.listings_give_their_commands.Goals as goal

pub returns : goal.returns
returns c = listings_give
