-- What the end of a line and a part of one come to in a turn.
use Rattle.std.proofs.Common.{◌≤◌, arith, length-append, ◌≡◌, ◌⊎◌, ◌==◌, ℕ, ◌+◌, ◌<◌, true, false, List, [], ◌∷◌, ◌++◌, codes, length, take, drop, refl, sym, ap, ◌∙◌, inl, inr, take-append-drop}
use Rattle.std.proofs.Math.Seq.{drop-drop}
use Rattle.std.proofs.lemmas.Bool.{eqb-true}
use Rattle.cad_network.specs.Deeds.{Deed, gave}
use Rattle.cad_stream.specs.declared.responder.Responder.{Ghosts}
use Rattle.cad_stream.specs.declared.journal_responder.JournalResponder.{Ghosts as JournalGhosts}
use Rattle.cad_desk.specs.declared.desk.Desk.{Desk}
use Rattle.cad_versions.specs.declared.fault.RegisterFault.TheVariants.{Memory}
use Rattle.cad_office.specs.declared.line.LineState.{LineState}
use Rattle.cad_office.specs.declared.print.Answer.{Answer}
use Rattle.cad_office.specs.declared.print.Answer.TheVariants.{Refused}
use Rattle.cad_office_socket.specs.declared.entry.Entry.{Entry}
use Rattle.cad_office_socket.specs.declared.turned.EntryTurned.{EntryTurned}
use Rattle.cad_office_socket.specs.declared.turned.EntryTurned.TheVariants.{Wrote, Took, Added, Answered, Lost, Checked, CheckLost, StatusAnswered, StatusLost, JournalBegun, RowsRead, RowsRefused, RowsLost, Piece, PieceLost, Stops, Waits, Over}
use Rattle.cad_office.specs.Lines.{longest_line}
use Rattle.cad_office_socket.specs.Checks.{IsCheck}
use Rattle.cad_office_socket.specs.Journals.{IsJournal}
use Rattle.cad_office_socket.specs.Statuses.{IsStatusLine}
use Rattle.cad_office_socket.specs.declared.journal_state.JournalRequest.{JournalRequest}
use Rattle.cad_office_socket.specs.declared.journal_state.JournalState.TheVariants.{Reading}
use Rattle.cad_office_socket.specs.inner.Pieces.{ReadsOn}
use Rattle.cad_office_socket.specs.Turns.{unread, unwritten, has_ended, IsAsking, IsElseSame, HasNoJournal, IsUnheld, AdvancesJournal, MayEnd, IsLineEnd, IsFed, IsSending, IsEntryTurn, SendsSome}

-- the bytes up to the end of a line, its LF, and what follows
pub line_and_rest : (at count : ℕ) (bytes : List ℕ) → drop count (drop at bytes) ≡ 10 ∷ drop (count + 1) (drop at bytes) → drop at bytes ≡ take count (drop at bytes) ++ 10 ∷ drop (at + (count + 1)) bytes
line_and_rest at count bytes ends =
    sym (take-append-drop count (drop at bytes)) ∙ ap (λ (rest : List ℕ). take count (drop at bytes) ++ rest) (ends ∙ ap (λ (rest : List ℕ). 10 ∷ rest) (drop-drop (count + 1) at bytes))

-- a line asks for something else than a command only where it could not be held
asks_else : {Asks : Type 0} (text : List ℕ) (state : LineState) (answer : Answer) → (Asks → IsUnheld state ⊎ longest_line < length text) → (IsUnheld state → answer ≡ Refused Memory) → Asks
    → (answer ≡ Refused Memory) ⊎ (longest_line < length text)
asks_else text state answer unheld told asks = elim (unheld asks) [
  | inl held ↦ inl (told held)
  | inr long ↦ inr long
]

-- a line that is not empty, and which asks to stop, for the status, for a check or for a journal only where it could not be held
pub asking : (text : List ℕ) (state : LineState) (answer : Answer) → (length text == 0) ≡ false → (text ≡ codes "stop" → IsUnheld state) → (IsCheck text → IsUnheld state ⊎ longest_line < length text)
    → (IsJournal text → IsUnheld state ⊎ longest_line < length text) → (IsStatusLine text → IsUnheld state) → (IsUnheld state → answer ≡ Refused Memory) → IsAsking text answer
asking [] state answer filled stop check journal status told = absurd (let clash : true ≡ false = filled in cc)
asking (byte ∷ text) state answer filled stop check journal status told = (
  (λ e. cc),
  (λ e. told (stop e)),
  (λ asks. asks_else (byte ∷ text) state answer check told asks),
  (λ asks. asks_else (byte ∷ text) state answer journal told asks),
  (λ asks. told (status asks)),
)

pub empty_text : (text : List ℕ) → (length text == 0) ≡ true → text ≡ []
empty_text [] none = refl
empty_text (byte ∷ text) none = let zero : length (byte ∷ text) ≡ 0 = eqb-true (length (byte ∷ text)) 0 none in absurd (omega (arith, zero))

-- what is checked is no longer than the line
pub part_short : (text part : List ℕ) → text ≡ codes "check " ++ part → length text ≤ longest_line → length part ≤ longest_line
part_short text part is short = let all = ap (λ (l : List ℕ). length l) is ∙ length-append (codes "check ") part in omega (arith, all, short)

module _ {R J : Type 0} (g : Ghosts R) (j : JournalGhosts R J) (s : ℕ) (old new : Desk R) (entry next : Entry J) where
  -- the last line ended with the input
  pub last_turn : (turned : EntryTurned) → MayEnd turned → unread entry ≡ [] → unwritten entry ≡ [] → HasNoJournal entry → has_ended entry ≡ false → IsLineEnd g j old entry turned new next → has_ended next ≡ true → IsEntryTurn g j s old entry turned new next (gave s [] ∷ [])
  last_turn Added ends read written quiet goes line over = (written, inr (refl, read, line, over, goes), quiet)
  last_turn (Answered answer) ends read written quiet goes line over = (written, inr (refl, read, line, over, goes), quiet)
  last_turn Stops ends read written quiet goes line over = (written, inr (refl, read, line, over, goes), quiet)
  last_turn (Lost answer) ends read written quiet goes line over = (written, inr (refl, read, line, over, goes), quiet)
  last_turn (Checked report) ends read written quiet goes line over = (written, inr (refl, read, line, over, goes), quiet)
  last_turn (CheckLost report) ends read written quiet goes line over = (written, inr (refl, read, line, over, goes), quiet)
  last_turn (StatusAnswered status) ends read written quiet goes line over = (written, inr (refl, read, line, over, goes), quiet)
  last_turn StatusLost ends read written quiet goes line over = (written, inr (refl, read, line, over, goes), quiet)
  last_turn (JournalBegun behind) ends read written quiet goes line over = (written, inr (refl, read, line, over, goes), quiet)
  last_turn RowsRead ends read written quiet goes line over = absurd ends
  last_turn (RowsRefused fault) ends read written quiet goes line over = absurd ends
  last_turn (RowsLost fault) ends read written quiet goes line over = absurd ends
  last_turn Piece ends read written quiet goes line over = absurd ends
  last_turn PieceLost ends read written quiet goes line over = absurd ends
  last_turn Over ends read written quiet goes line over = absurd ends
  last_turn Wrote ends read written quiet goes line over = absurd ends
  last_turn Took ends read written quiet goes line over = absurd ends
  last_turn Waits ends read written quiet goes line over = absurd ends

  -- bytes of a line were taken
  pub fed_turn : (turned : EntryTurned) → MayEnd turned → unwritten entry ≡ [] → HasNoJournal entry → 0 < length (unread entry) → IsFed g j old entry turned new next → has_ended next ≡ has_ended entry → IsEntryTurn g j s old entry turned new next []
  fed_turn Added ends written quiet some fed goes = (written, inl (refl, some, fed, goes), quiet)
  fed_turn (Answered answer) ends written quiet some fed goes = (written, inl (refl, some, fed, goes), quiet)
  fed_turn Stops ends written quiet some fed goes = (written, inl (refl, some, fed, goes), quiet)
  fed_turn (Lost answer) ends written quiet some fed goes = (written, inl (refl, some, fed, goes), quiet)
  fed_turn (Checked report) ends written quiet some fed goes = (written, inl (refl, some, fed, goes), quiet)
  fed_turn (CheckLost report) ends written quiet some fed goes = (written, inl (refl, some, fed, goes), quiet)
  fed_turn (StatusAnswered status) ends written quiet some fed goes = (written, inl (refl, some, fed, goes), quiet)
  fed_turn StatusLost ends written quiet some fed goes = (written, inl (refl, some, fed, goes), quiet)
  fed_turn (JournalBegun behind) ends written quiet some fed goes = (written, inl (refl, some, fed, goes), quiet)
  fed_turn RowsRead ends written quiet some fed goes = absurd ends
  fed_turn (RowsRefused fault) ends written quiet some fed goes = absurd ends
  fed_turn (RowsLost fault) ends written quiet some fed goes = absurd ends
  fed_turn Piece ends written quiet some fed goes = absurd ends
  fed_turn PieceLost ends written quiet some fed goes = absurd ends
  fed_turn Over ends written quiet some fed goes = absurd ends
  fed_turn Wrote ends written quiet some fed goes = absurd ends
  fed_turn Took ends written quiet some fed goes = absurd ends
  fed_turn Waits ends written quiet some fed goes = absurd ends

  -- rows were read, or not, where nothing is told besides
  pub rows_turn : (asked : JournalRequest J) (from : Entry J) (turned : EntryTurned) → entry.journal ≡ Reading asked → IsElseSame entry from → ReadsOn g j asked old from turned new next → AdvancesJournal g j old entry turned new next
  rows_turn asked from RowsRead is same r = (asked, is, r.0, r.1, (r.2.0 ∙ same.0, r.2.1 ∙ same.1, r.2.2 ∙ same.2))
  rows_turn asked from (RowsRefused fault) is same r = (asked, is, r.0, r.1, (r.2.0 ∙ same.0, r.2.1 ∙ same.1, r.2.2 ∙ same.2), r.3)
  rows_turn asked from (RowsLost fault) is same r = (asked, is, r.0, r.1, (r.2.0 ∙ same.0, r.2.1 ∙ same.1, r.2.2 ∙ same.2))
  rows_turn asked from Wrote is same r = absurd r
  rows_turn asked from Took is same r = absurd r
  rows_turn asked from Added is same r = absurd r
  rows_turn asked from (Answered answer) is same r = absurd r
  rows_turn asked from (Lost answer) is same r = absurd r
  rows_turn asked from (Checked report) is same r = absurd r
  rows_turn asked from (CheckLost report) is same r = absurd r
  rows_turn asked from (StatusAnswered status) is same r = absurd r
  rows_turn asked from StatusLost is same r = absurd r
  rows_turn asked from (JournalBegun behind) is same r = absurd r
  rows_turn asked from Piece is same r = absurd r
  rows_turn asked from PieceLost is same r = absurd r
  rows_turn asked from Stops is same r = absurd r
  rows_turn asked from Waits is same r = absurd r
  rows_turn asked from Over is same r = absurd r

  -- a journal was told
  pub journal_turn : (turned : EntryTurned) → unwritten entry ≡ [] → AdvancesJournal g j old entry turned new next → IsEntryTurn g j s old entry turned new next []
  journal_turn RowsRead written told = (refl, written, told)
  journal_turn (RowsRefused fault) written told = (refl, written, told)
  journal_turn (RowsLost fault) written told = (refl, written, told)
  journal_turn Piece written told = (refl, written, told)
  journal_turn PieceLost written told = (refl, written, told)
  journal_turn Wrote written told = absurd told
  journal_turn Took written told = absurd told
  journal_turn Added written told = absurd told
  journal_turn (Answered answer) written told = absurd told
  journal_turn (Lost answer) written told = absurd told
  journal_turn (Checked report) written told = absurd told
  journal_turn (CheckLost report) written told = absurd told
  journal_turn (StatusAnswered status) written told = absurd told
  journal_turn StatusLost written told = absurd told
  journal_turn (JournalBegun behind) written told = absurd told
  journal_turn Stops written told = absurd told
  journal_turn Waits written told = absurd told
  journal_turn Over written told = absurd told

-- an answer is written on
pub sent_turn : {R J : Type 0} (g : Ghosts R) (j : JournalGhosts R J) (s : ℕ) (desk : Desk R) (entry next : Entry J) (turned : EntryTurned) (deeds : List Deed) → IsSending entry → SendsSome s entry turned next deeds
    → IsEntryTurn g j s desk entry turned desk next deeds
sent_turn g j s desk entry next Wrote deeds sending t = (t.0, t.1, t.2, t.3, t.4, t.5, refl, t.6, t.7)
sent_turn g j s desk entry next Waits deeds sending t = (t.0, inl sending, refl, t.1)
sent_turn g j s desk entry next Over deeds sending t = (inr (inl (t, sending)), refl)
sent_turn g j s desk entry next Took deeds sending t = absurd t
sent_turn g j s desk entry next Added deeds sending t = absurd t
sent_turn g j s desk entry next (Answered answer) deeds sending t = absurd t
sent_turn g j s desk entry next (Lost answer) deeds sending t = absurd t
sent_turn g j s desk entry next (Checked report) deeds sending t = absurd t
sent_turn g j s desk entry next (CheckLost report) deeds sending t = absurd t
sent_turn g j s desk entry next (StatusAnswered status) deeds sending t = absurd t
sent_turn g j s desk entry next StatusLost deeds sending t = absurd t
sent_turn g j s desk entry next Stops deeds sending t = absurd t
sent_turn g j s desk entry next (JournalBegun behind) deeds sending t = absurd t
sent_turn g j s desk entry next RowsRead deeds sending t = absurd t
sent_turn g j s desk entry next (RowsRefused fault) deeds sending t = absurd t
sent_turn g j s desk entry next (RowsLost fault) deeds sending t = absurd t
sent_turn g j s desk entry next Piece deeds sending t = absurd t
sent_turn g j s desk entry next PieceLost deeds sending t = absurd t
