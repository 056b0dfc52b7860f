-- What the connection of the land office holds between its socket and the desk, and what a turn does (own profile).
use Rattle.std.specs.Prelude.{◌≡◌, ◌≢◌, ◌⊎◌, ◌<◌, ℕ, ⊤, Bool, true, false, List, [], ◌∷◌, ◌++◌, length, drop, codes}
use Rattle.cad_network.specs.Deeds.{Deed, blocked, failed}
use Rattle.cad_network.specs.Deeds as deed
use Rattle.cad_stream.specs.declared.responder.Responder.{Ghosts}
use Rattle.cad_stream.specs.declared.journal_responder.JournalResponder.{Ghosts as JournalGhosts}
use Rattle.cad_desk.specs.declared.desk.Desk.{Desk}
use Rattle.cad_versions.specs.declared.fault.RegisterFault.TheVariants.{Memory}
use Rattle.cad_office.specs.declared.line.LineState.{LineState}
use Rattle.cad_office.specs.declared.line.LineState.TheVariants.{Buffered, TooLong, OutOfMemory}
use Rattle.cad_office.specs.declared.print.Answer.{Answer}
use Rattle.cad_office.specs.declared.print.Answer.TheVariants.{Refused}
use Rattle.cad_office.specs.Answers.{printed}
use Rattle.cad_office.specs.Keeping.{AnswersLine}
use Rattle.cad_office.specs.Lines.{longest_line, BuffersLine}
use Rattle.cad_dry_run.specs.Reports.{report_text}
use Rattle.cad_office_socket.specs.declared.entry.Entry.{Entry}
use Rattle.cad_office_socket.specs.declared.turned.EntryTurned.{EntryTurned}
use Rattle.cad_office_socket.specs.declared.turned.EntryTurned.TheVariants.{Wrote, Took, Added, Answered, Lost, Checked, CheckLost, StatusAnswered, StatusLost, JournalBegun, RowsRead, RowsRefused, RowsLost, Piece, PieceLost, Stops, Waits, Over}
use Rattle.cad_office_socket.specs.Buffering.{IsOfOneLine}
use Rattle.cad_office_socket.specs.Checks.{IsCheck, ChecksLine}
use Rattle.cad_office_socket.specs.Statuses.{IsStatusLine, IsStatusOf, status_text}
use Rattle.cad_office_socket.specs.Entries.{EntersAtDesk}
use Rattle.cad_office_socket.specs.Journals.{IsJournal, IsJournalAfter, Begins, IsRead, IsPiece, IsUnread}
use Rattle.cad_office_socket.specs.declared.journal_state.JournalRequest.{JournalRequest}
use Rattle.cad_office_socket.specs.declared.journal_state.JournalState.{JournalState}
use Rattle.cad_office_socket.specs.declared.journal_state.JournalState.TheVariants.{Idle, Reading}

-- bytes that were read and not taken
abbrev pub unread : {J : Type 0} → Entry J → List ℕ
unread entry = drop entry.input_at entry.input.items

-- the unwritten part of an answer, or of a piece of a journal
abbrev pub unwritten : {J : Type 0} → Entry J → List ℕ
unwritten entry = drop entry.output_at entry.output.items

-- the office sends no more
abbrev pub has_ended : {J : Type 0} → Entry J → Bool
has_ended entry = entry.ends

-- an answer is to be written
abbrev pub IsSending : {J : Type 0} → Entry J → Type 0
IsSending entry = 0 < length (unwritten entry)

-- no journal is read or written
abbrev pub HasNoJournal : {J : Type 0} → Entry J → Type 0
HasNoJournal entry = entry.journal ≡ Idle

-- all answers were written, all that was read is taken, no journal is read or written, and the office may send more
abbrev pub IsIdle : {J : Type 0} → Entry J → Type 0
IsIdle entry = (unwritten entry ≡ []) × (unread entry ≡ []) × (has_ended entry ≡ false) × HasNoJournal entry

-- the next thing is a write or a read, which the socket may not allow for now
abbrev pub MayWait : {J : Type 0} → Entry J → Type 0
MayWait entry = IsSending entry ⊎ IsIdle entry

-- the line that has begun has this text
abbrev pub HasBegun : {J : Type 0} → List ℕ → Entry J → Type 0
HasBegun text entry = BuffersLine text entry.line

-- nothing was read, and nothing is to be written
pub record IsNewEntry {J : Type 0} (entry : Entry J) : Type 0 where
  pub none_read : unread entry ≡ []
  pub none_written : unwritten entry ≡ []
  pub none_begun : HasBegun [] entry
  pub no_journal : HasNoJournal entry

-- a line has begun
abbrev pub IsBegun : {J : Type 0} → Entry J → Type 0
IsBegun entry = (text : List ℕ) × HasBegun text entry

-- a write to socket s failed, or took nothing
abbrev pub IsUnwritten : ℕ → List Deed → Type 0
IsUnwritten s deeds = (deeds ≡ failed s ∷ []) ⊎ (deeds ≡ deed.took s [] ∷ [])

-- the same is unread, the line that has begun is the same, and so is whether the office sends more
abbrev pub IsElseSame : {J : Type 0} → Entry J → Entry J → Type 0
IsElseSame entry next = (unread next ≡ unread entry) × (next.line ≡ entry.line) × (has_ended next ≡ has_ended entry)

-- a further part of an answer is written at socket s, or the socket takes nothing for now, or the write failed; nothing else is done
abbrev pub SendsSome : {J : Type 0} → ℕ → Entry J → EntryTurned → Entry J → List Deed → Type 0
SendsSome s entry Wrote next deeds =
    (bytes : List ℕ) × (deeds ≡ deed.took s bytes ∷ []) × (0 < length bytes) × (unwritten entry ≡ bytes ++ unwritten next) × (unread next ≡ unread entry) × (next.line ≡ entry.line) × (has_ended next ≡ has_ended entry) × (next.journal ≡ entry.journal)
SendsSome s entry Waits next deeds = (deeds ≡ blocked s ∷ []) × (next ≡ entry)
SendsSome s entry Over next deeds = IsUnwritten s deeds
SendsSome s entry other next deeds = ⊥

-- there was no memory to hold the line
abbrev pub IsUnheld : LineState → Type 0
IsUnheld Buffered = ⊥
IsUnheld TooLong = ⊥
IsUnheld (OutOfMemory count) = ⊤

-- a line that has an answer: it is not empty; it is `stop` or `status` only if there was no memory to hold it; and it asks for a check or a
-- journal only if there was none, or if it is too long
abbrev pub IsAsking : List ℕ → Answer → Type 0
IsAsking text answer =
    (text ≢ []) × (text ≡ codes "stop" → answer ≡ Refused Memory)
    × (IsCheck text → (answer ≡ Refused Memory) ⊎ (longest_line < length text)) × (IsJournal text → (answer ≡ Refused Memory) ⊎ (longest_line < length text))
    × (IsStatusLine text → answer ≡ Refused Memory)

-- the possible results of the end of a line
abbrev pub MayEnd : EntryTurned → Type 0
MayEnd Wrote = ⊥
MayEnd Took = ⊥
MayEnd RowsRead = ⊥
MayEnd (RowsRefused fault) = ⊥
MayEnd (RowsLost fault) = ⊥
MayEnd Piece = ⊥
MayEnd PieceLost = ⊥
MayEnd Waits = ⊥
MayEnd Over = ⊥
MayEnd other = ⊤

module _ {R J : Type 0} (g : Ghosts R) (j : JournalGhosts R J) where
  -- the result of the end of a line with this text: its command is entered, and then answered
  abbrev pub EndsLine : List ℕ → Desk R → EntryTurned → Desk R → Entry J → Type 0
  EndsLine text old Added new next = (text ≡ []) × (new ≡ old) × (unwritten next ≡ []) × HasBegun [] next × HasNoJournal next
  EndsLine text old (Answered answer) new next = IsAsking text answer × AnswersLine (EntersAtDesk g) text old answer new × (unwritten next ≡ printed answer) × HasBegun [] next × HasNoJournal next
  EndsLine text old (Checked report) new next = ChecksLine g text old report new × (unwritten next ≡ report_text report) × HasBegun [] next × HasNoJournal next
  EndsLine text old (StatusAnswered status) new next = IsStatusOf g text old status new × (unwritten next ≡ status_text status) × HasBegun [] next × HasNoJournal next
  EndsLine text old (JournalBegun behind) new next = IsJournalAfter text behind × Begins g j old behind next.journal × (new ≡ old) × (unwritten next ≡ []) × HasBegun [] next
  EndsLine text old Stops new next = (text ≡ codes "stop") × (new ≡ old) × (unwritten next ≡ []) × HasBegun [] next × HasNoJournal next
  -- no memory for the text of the answer
  EndsLine text old (Lost answer) new next = IsAsking text answer × AnswersLine (EntersAtDesk g) text old answer new × (unwritten next ≡ []) × HasBegun [] next × HasNoJournal next
  EndsLine text old (CheckLost report) new next = ChecksLine g text old report new × (unwritten next ≡ []) × HasBegun [] next × HasNoJournal next
  EndsLine text old StatusLost new next = IsStatusLine text × (new ≡ old) × (unwritten next ≡ []) × HasBegun [] next × HasNoJournal next
  EndsLine text old Over new next = ⊥
  EndsLine text old Wrote new next = ⊥
  EndsLine text old Took new next = ⊥
  EndsLine text old RowsRead new next = ⊥
  EndsLine text old (RowsRefused fault) new next = ⊥
  EndsLine text old (RowsLost fault) new next = ⊥
  EndsLine text old Piece new next = ⊥
  EndsLine text old PieceLost new next = ⊥
  EndsLine text old Waits new next = ⊥

  -- the line ends, for any text that it may have
  abbrev pub IsLineEnd : Desk R → Entry J → EntryTurned → Desk R → Entry J → Type 0
  IsLineEnd old entry turned new next = (text : List ℕ) → HasBegun text entry → EndsLine text old turned new next × (unread next ≡ unread entry)

  -- bytes of the line are taken, and it continues or ends
  abbrev pub IsFed : Desk R → Entry J → EntryTurned → Desk R → Entry J → Type 0
  IsFed old entry turned new next = (begun : List ℕ) → HasBegun begun entry → (part : List ℕ) × IsOfOneLine part
      × (((turned ≡ Added) × (new ≡ old) × (unwritten next ≡ []) × (unread entry ≡ part) × (unread next ≡ []) × HasBegun (begun ++ part) next × HasNoJournal next)
      ⊎ ((unread entry ≡ part ++ 10 ∷ unread next) × EndsLine (begun ++ part) old turned new next))

  -- a journal goes on, before more is taken: rows are read or not read at the desk, or a piece is to be written
  abbrev pub AdvancesJournal : Desk R → Entry J → EntryTurned → Desk R → Entry J → Type 0
  AdvancesJournal old entry RowsRead new next =
      (asked : JournalRequest J) × (entry.journal ≡ Reading asked) × IsRead g j old asked new next.journal × (unwritten next ≡ []) × IsElseSame entry next
  AdvancesJournal old entry (RowsRefused fault) new next =
      (asked : JournalRequest J) × (entry.journal ≡ Reading asked) × IsUnread g j old asked fault new × (unwritten next ≡ printed (Refused fault)) × IsElseSame entry next × HasNoJournal next
  AdvancesJournal old entry Piece new next = IsPiece entry.journal (unwritten next) next.journal × IsElseSame entry next × (new ≡ old)
  -- no memory for the text
  AdvancesJournal old entry (RowsLost fault) new next =
      (asked : JournalRequest J) × (entry.journal ≡ Reading asked) × IsUnread g j old asked fault new × (unwritten next ≡ []) × IsElseSame entry next
  AdvancesJournal old entry PieceLost new next = (¬ HasNoJournal entry) × (unwritten next ≡ []) × IsElseSame entry next × (new ≡ old)
  AdvancesJournal old entry other new next = ⊥

-- and the deeds at its socket s
module _ {R J : Type 0} (g : Ghosts R) (j : JournalGhosts R J) (s : ℕ) where
  -- the office sends no more, and this ends the line that has begun
  abbrev pub IsAtLastLine : Desk R → Entry J → EntryTurned → Desk R → Entry J → List Deed → Type 0
  IsAtLastLine old entry turned new next deeds = (deeds ≡ deed.gave s [] ∷ []) × (unread entry ≡ []) × IsLineEnd g j old entry turned new next × (has_ended next ≡ true) × (has_ended entry ≡ false)

  -- bytes that were read are taken: all those of a line that were read; or the input is at its end
  abbrev pub IsTaken : Desk R → Entry J → EntryTurned → Desk R → Entry J → List Deed → Type 0
  IsTaken old entry turned new next deeds = (unwritten entry ≡ [])
      × (((deeds ≡ []) × (0 < length (unread entry)) × IsFed g j old entry turned new next × (has_ended next ≡ has_ended entry)) ⊎ IsAtLastLine old entry turned new next deeds)
      × HasNoJournal entry

  -- the same, when all before it was written
  abbrev pub IsJournalTurn : Desk R → Entry J → EntryTurned → Desk R → Entry J → List Deed → Type 0
  IsJournalTurn old entry turned new next deeds = (deeds ≡ []) × (unwritten entry ≡ []) × AdvancesJournal g j old entry turned new next

  -- no line is taken: the office sent no more and was answered, or a write failed or took nothing, or a read failed, or there was no memory
  -- for what it gave
  abbrev pub IsCutOff : Entry J → List Deed → Type 0
  IsCutOff entry deeds =
      ((deeds ≡ []) × (unwritten entry ≡ []) × (has_ended entry ≡ true) × HasNoJournal entry) ⊎ ((IsUnwritten s deeds × IsSending entry)
      ⊎ (((deeds ≡ failed s ∷ []) × IsIdle entry) ⊎ ((bytes : List ℕ) × (deeds ≡ deed.gave s bytes ∷ []) × (0 < length bytes) × IsIdle entry)))

  -- the result of a turn: an answer and a journal are written before more is taken, and more is read only when all is taken
  abbrev pub IsEntryTurn : Desk R → Entry J → EntryTurned → Desk R → Entry J → List Deed → Type 0
  IsEntryTurn old entry Wrote new next deeds =
      (bytes : List ℕ) × (deeds ≡ deed.took s bytes ∷ []) × (0 < length bytes) × (unwritten entry ≡ bytes ++ unwritten next) × (unread next ≡ unread entry) × (next.line ≡ entry.line) × (new ≡ old) × (has_ended next ≡ has_ended entry) × (next.journal ≡ entry.journal)
  IsEntryTurn old entry Took new next deeds =
      (bytes : List ℕ) × (deeds ≡ deed.gave s bytes ∷ []) × (0 < length bytes) × IsIdle entry × (unwritten next ≡ []) × (unread next ≡ bytes) × (next.line ≡ entry.line) × (new ≡ old) × (has_ended next ≡ has_ended entry) × HasNoJournal next
  IsEntryTurn old entry Added new next deeds = IsTaken old entry Added new next deeds
  IsEntryTurn old entry (Answered answer) new next deeds = IsTaken old entry (Answered answer) new next deeds
  IsEntryTurn old entry (Lost answer) new next deeds = IsTaken old entry (Lost answer) new next deeds
  IsEntryTurn old entry (Checked report) new next deeds = IsTaken old entry (Checked report) new next deeds
  IsEntryTurn old entry (CheckLost report) new next deeds = IsTaken old entry (CheckLost report) new next deeds
  IsEntryTurn old entry (StatusAnswered status) new next deeds = IsTaken old entry (StatusAnswered status) new next deeds
  IsEntryTurn old entry StatusLost new next deeds = IsTaken old entry StatusLost new next deeds
  IsEntryTurn old entry (JournalBegun behind) new next deeds = IsTaken old entry (JournalBegun behind) new next deeds
  IsEntryTurn old entry RowsRead new next deeds = IsJournalTurn old entry RowsRead new next deeds
  IsEntryTurn old entry (RowsRefused fault) new next deeds = IsJournalTurn old entry (RowsRefused fault) new next deeds
  IsEntryTurn old entry (RowsLost fault) new next deeds = IsJournalTurn old entry (RowsLost fault) new next deeds
  IsEntryTurn old entry Piece new next deeds = IsJournalTurn old entry Piece new next deeds
  IsEntryTurn old entry PieceLost new next deeds = IsJournalTurn old entry PieceLost new next deeds
  IsEntryTurn old entry Stops new next deeds = IsTaken old entry Stops new next deeds
  IsEntryTurn old entry Waits new next deeds = (deeds ≡ blocked s ∷ []) × MayWait entry × (new ≡ old) × (next ≡ entry)
  IsEntryTurn old entry Over new next deeds = IsCutOff entry deeds × (new ≡ old)
