-- What a turn does for a journal (own profile).
use Rattle.std.specs.Prelude.{◌≡◌, ℕ, List, []}
use Rattle.cad_stream.specs.declared.responder.Responder.{Ghosts}
use Rattle.cad_stream.specs.declared.journal_responder.JournalResponder.{Ghosts as JournalGhosts}
use Rattle.cad_desk.specs.declared.desk.Desk.{Desk}
use Rattle.cad_office.specs.declared.print.Answer.TheVariants.{Refused}
use Rattle.cad_office.specs.Answers.{printed}
use Rattle.cad_office_socket.specs.declared.entry.Entry.{Entry}
use Rattle.cad_office_socket.specs.declared.journal_state.JournalRequest.{JournalRequest}
use Rattle.cad_office_socket.specs.declared.journal_state.JournalState.{JournalState}
use Rattle.cad_office_socket.specs.declared.turned.EntryTurned.{EntryTurned}
use Rattle.cad_office_socket.specs.declared.turned.EntryTurned.TheVariants.{RowsRead, RowsRefused, RowsLost, Piece, PieceLost}
use Rattle.cad_office_socket.specs.Journals.{IsRead, IsUnread}
use Rattle.cad_office_socket.specs.Turns.{unwritten, IsElseSame, HasNoJournal}

-- such a text is to be written, and this is left after it; or there is no memory for the text
abbrev pub HasText : {J : Type 0} → (List ℕ → JournalState J → Type 0) → Entry J → EntryTurned → Entry J → Type 0
HasText Is entry Piece next = Is (unwritten next) next.journal × IsElseSame entry next
HasText Is entry PieceLost next = (unwritten next ≡ unwritten entry) × IsElseSame entry next
HasText Is entry other next = ⊥

module _ {R J : Type 0} (g : Ghosts R) (j : JournalGhosts R J) where
  -- these rows are read, or the desk does not read them
  abbrev pub ReadsOn : JournalRequest J → Desk R → Entry J → EntryTurned → Desk R → Entry J → Type 0
  ReadsOn asked old entry RowsRead new next = IsRead g j old asked new next.journal × (unwritten next ≡ []) × IsElseSame entry next
  ReadsOn asked old entry (RowsRefused fault) new next = IsUnread g j old asked fault new × (unwritten next ≡ printed (Refused fault)) × IsElseSame entry next × HasNoJournal next
  ReadsOn asked old entry (RowsLost fault) new next = IsUnread g j old asked fault new × (unwritten next ≡ []) × IsElseSame entry next
  ReadsOn asked old entry other new next = ⊥
