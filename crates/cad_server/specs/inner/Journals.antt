-- How the journal of a server's ledger is read (own profile).
use Rattle.std.specs.Prelude.{ℕ, Bool, Result}
use Rattle.cad_versions.specs.declared.fault.RegisterFault.{RegisterFault}
use Rattle.cad_versions.specs.declared.ledger.Ledger.{Ghosts}
use Rattle.cad_versions.specs.declared.journal_ledger.JournalLedger.{Ghosts as JournalGhosts}
use Rattle.cad_versions.specs.Journals.{BeginsJournal, ReadsJournal}
use Rattle.cad_server.specs.declared.records.Records.{Records}
use Rattle.cad_server.specs.Servers.{ledger_in, AreRecordsOf}

module _ {L Reading : Type 0} (g : Ghosts L) (j : JournalGhosts L Reading) where
  -- the records begin a reading in the same way as their ledger
  abbrev pub BeginsReading : Records L → ℕ → Result Reading RegisterFault → Type 0
  BeginsReading = BeginsJournal (AreRecordsOf g) j.has_read j.behind_of j.newest_of j.rows_left

  -- they read the next rows in the same way
  abbrev pub ReadsRows : Records L → Reading → ℕ → Result Bool RegisterFault → Records L → Reading → Type 0
  ReadsRows =
      ReadsJournal (AreRecordsOf g) (λ records. g.counts (ledger_in records)) (λ records. g.lives (ledger_in records)) (λ old new. g.fails (ledger_in old) (ledger_in new)) (λ old new. g.remains (ledger_in old) (ledger_in new))
      j.has_read j.behind_of j.newest_of j.rows_left j.fails_to_read (λ old new. j.refuses_reading (ledger_in old) (ledger_in new)) (λ old new. j.damaged_for_reading (ledger_in old) (ledger_in new))
