use Rattle.cad_register.proofs.JournalReadingLemmas.{readings_stay}
use Rattle.cad_register.proofs.laws.readings_stay.Goals as goal

pub returns : goal.returns
returns c = readings_stay
