-- Lines that ask for the journal, and how it is read and written, a piece at a time (own profile).
use Rattle.std.specs.Prelude.{◌≡◌, ◌≢◌, ◌⊎◌, ℕ, ◌+◌, ◌==◌, min, true, false, List, [], ◌++◌, length, codes, Vec, Result, Ok, Err, Some, option_map, if◌then◌else◌}
use Rattle.std.specs.Global.{Global}
use Rattle.cad_io.specs.Decimals.{number_in}
use Rattle.cad_versions.specs.declared.command.Command.{Command}
use Rattle.cad_versions.specs.declared.fault.RegisterFault.{RegisterFault}
use Rattle.cad_versions.specs.Journals.{GivesJournal}
use Rattle.cad_stream.specs.declared.responder.Responder.{Ghosts}
use Rattle.cad_stream.specs.declared.journal_responder.JournalResponder.{Ghosts as JournalGhosts}
use Rattle.cad_desk.specs.declared.desk.Desk.{Desk}
use Rattle.cad_desk.specs.Journals.{BeginsAtDesk, ReadsAtDesk}
use Rattle.cad_office.specs.declared.journal.JournalLines.{JournalLines}
use Rattle.cad_office.specs.declared.print.Answer.TheVariants.{Refused}
use Rattle.cad_office.specs.Answers.{printed}
use Rattle.cad_office.specs.JournalLines.{commands_left, WritesPiece}
use Rattle.cad_office_socket.specs.declared.journal_state.JournalRequest.{JournalRequest}
use Rattle.cad_office_socket.specs.declared.journal_state.JournalState.{JournalState}
use Rattle.cad_office_socket.specs.declared.journal_state.JournalState.TheVariants.{Idle, Rejected, Reading, Writing}

-- any larger number counts as this one: no ledger has so many commands
abbrev pub most_revision : ℕ
most_revision = 1000000000000000000

-- the line is `journal` and a revision in decimal digits: it asks for the commands after this revision
abbrev pub IsJournalAfter : List ℕ → ℕ → Type 0
IsJournalAfter text behind = (digits : List ℕ) × (text ≡ codes "journal " ++ digits) × (option_map (min most_revision) (number_in digits) ≡ Some behind)

abbrev pub IsJournal : List ℕ → Type 0
IsJournal text = (behind : ℕ) × IsJournalAfter text behind

-- how many rows are read in a turn, at most
abbrev pub most_rows : ℕ
most_rows = 256

module _ {R J : Type 0} (g : Ghosts R) (j : JournalGhosts R J) where
  -- a reading of the commands after this revision begins at the desk, or the desk refuses it
  abbrev pub Begins : Desk R → ℕ → JournalState J → Type 0
  Begins desk behind Idle = ⊥
  Begins desk behind (Rejected fault) = BeginsAtDesk g j desk behind (Err fault)
  Begins desk behind (Reading asked) = (asked.behind ≡ behind) × BeginsAtDesk g j desk behind (Ok asked.reading)
  Begins desk behind (Writing lines) = ⊥

  -- all rows of the reading were read: its commands are to be written, and then the revision of the last one; or they are not given
  abbrev pub IsWhole : ℕ → J → JournalState J → Type 0
  IsWhole behind reading Idle = ⊥
  IsWhole behind reading (Rejected fault) = GivesJournal j.has_read j.behind_of j.newest_of reading (Err fault)
  IsWhole behind reading (Reading asked) = ⊥
  IsWhole behind reading (Writing lines) =
      (journal : Vec Command Global) × GivesJournal j.has_read j.behind_of j.newest_of reading (Ok journal) × (commands_left lines ≡ journal.items) × (lines.newest ≡ behind + length journal.items)

  -- the desk reads the next rows
  abbrev pub IsRead : Desk R → JournalRequest J → Desk R → JournalState J → Type 0
  IsRead old asked new (Reading after) = (after.behind ≡ asked.behind) × ReadsAtDesk g j old asked.reading most_rows (Ok false) new after.reading
  IsRead old asked new told = (after : J) × ReadsAtDesk g j old asked.reading most_rows (Ok true) new after × IsWhole asked.behind after told

  -- the desk does not read them
  abbrev pub IsUnread : Desk R → JournalRequest J → RegisterFault → Desk R → Type 0
  IsUnread old asked fault new = (after : J) × ReadsAtDesk g j old asked.reading most_rows (Err fault) new after

module _ {J : Type 0} where
  -- what is left after a piece of the lines
  abbrev pub rest_of : JournalLines → JournalState J
  rest_of lines = if length (commands_left lines) == 0 then Idle else Writing lines

  -- the text of the next piece, and what is left after it
  abbrev pub IsPiece : JournalState J → List ℕ → JournalState J → Type 0
  IsPiece Idle text next = ⊥
  IsPiece (Rejected fault) text next = (text ≡ printed (Refused fault)) × (next ≡ Idle)
  IsPiece (Reading asked) text next = ⊥
  IsPiece (Writing lines) text next = (after : JournalLines) × WritesPiece text lines after × (next ≡ rest_of after)
