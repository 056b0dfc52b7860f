-- A land register as a ledger whose journal is read in pieces (own profile).
use Rattle.sqlite_trees.specs.declared.store.Store.{Ghosts}
use Rattle.cad_versions.specs.declared.journal_ledger.JournalLedger as journal_ledger
use Rattle.cad_register.specs.declared.register.Register.{Register}
use Rattle.cad_register.specs.declared.journal_reading.JournalReading.{JournalReading}
use Rattle.cad_register.specs.JournalReading.{HasRead, behind_of, newest_of, rows_left}
use Rattle.cad_register.specs.Ledgers.{RefusesReading, DamagedForReading}
use Rattle.cad_register.specs.Stands.{IsStoreFault}

abbrev pub register_as_journal : {S : Type 0} → Ghosts S → journal_ledger.Ghosts (Register S) JournalReading
register_as_journal g = record {
  has_read = HasRead;
  behind_of = behind_of;
  newest_of = newest_of;
  rows_left = rows_left;
  fails_to_read = λ commands. IsStoreFault;
  refuses_reading = RefusesReading g;
  damaged_for_reading = DamagedForReading g;
}
