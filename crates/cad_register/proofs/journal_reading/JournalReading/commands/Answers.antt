use Rattle.cad_register.proofs.JournalReadingLemmas.{given_of, caused_of}
use Rattle.cad_register.proofs.journal_reading.JournalReading.commands.Goals as goal

pub returns-clause-given : goal.returns-clause-given
returns-clause-given c = given_of c.args.self c.commands_in.result c.requires c.commands_in.ensures.held

pub returns-clause-cause : goal.returns-clause-cause
returns-clause-cause c = caused_of c.args.self c.commands_in.result c.requires c.commands_in.ensures.held
