-- The journal that a server gives back is its ledger's (own profile).
use Rattle.cad_versions.specs.declared.journal_ledger.JournalLedger as journal_ledger
use Rattle.cad_stream.specs.declared.journal_responder.JournalResponder as journal_responder
use Rattle.cad_server.specs.declared.server.Server.{Server}
use Rattle.cad_server.specs.Servers.{ledger_of}

-- the rules by which a server over the ledger reads its journal
abbrev pub journals_of : {L J : Type 0} → journal_ledger.Ghosts L J → journal_responder.Ghosts (Server L) J
journals_of j = record {
  has_read = j.has_read;
  behind_of = j.behind_of;
  newest_of = j.newest_of;
  rows_left = j.rows_left;
  fails_to_read = j.fails_to_read;
  refuses_reading = λ old new. j.refuses_reading (ledger_of old) (ledger_of new);
  damaged_for_reading = λ old new. j.damaged_for_reading (ledger_of old) (ledger_of new);
}
