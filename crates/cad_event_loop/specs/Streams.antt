-- What is read of the land office's socket, and what is written to it (own profile).
use Rattle.std.specs.Prelude.{◌≡◌, ◌⊎◌, ℕ, nat_eq, Bool, true, false, ◌&&◌, List, [], ◌∷◌, ◌++◌, codes, if◌then◌else◌}
use Rattle.cad_stream.specs.declared.responder.Responder.{Ghosts}
use Rattle.cad_stream.specs.declared.journal_responder.JournalResponder.{Ghosts as JournalGhosts}
use Rattle.cad_desk.specs.declared.desk.Desk.{Desk}
use Rattle.cad_network.specs.Deeds.{Deed, left, given_by, taken_by, comes}
use Rattle.cad_office.specs.Answers.{printed}
use Rattle.cad_office.specs.declared.print.Answer.TheVariants.{Refused}
use Rattle.cad_office.specs.Keeping.{AnswersLine}
use Rattle.cad_office.specs.Lines.{lines_in}
use Rattle.cad_office_socket.specs.declared.turned.EntryTurned.{EntryTurned}
use Rattle.cad_office_socket.specs.declared.turned.EntryTurned.TheVariants.{Answered, Lost, Checked, CheckLost, StatusAnswered, StatusLost, JournalBegun, RowsRefused, Piece, Stops, Over}
use Rattle.cad_dry_run.specs.Reports.{report_text}
use Rattle.cad_office_socket.specs.Checks.{ChecksLine}
use Rattle.cad_office_socket.specs.Journals.{IsJournalAfter}
use Rattle.cad_office_socket.specs.Statuses.{IsStatusLine, IsStatusOf, status_text}
use Rattle.cad_office_socket.specs.Entries.{EntersAtDesk}
use Rattle.cad_event_loop.specs.Works.{Place, Work, office_comes, enters, IsEmpty, all_deeds, Goes}

-- a line that is not empty ended in the turn: it was answered, or a journal was begun for it, or it is `stop`
abbrev pub ends_line : EntryTurned → Bool
ends_line (Answered answer) = true
ends_line (Lost answer) = true
ends_line (Checked report) = true
ends_line (CheckLost report) = true
ends_line (StatusAnswered status) = true
ends_line StatusLost = true
ends_line (JournalBegun behind) = true
ends_line Stops = true
ends_line other = false

-- the text that is to be written for it: its answer, if there was memory for the text; or a piece of a journal
abbrev pub answer_text : List ℕ → EntryTurned → List ℕ
answer_text text (Answered answer) = printed answer
answer_text text (Checked report) = report_text report
answer_text text (StatusAnswered status) = status_text status
answer_text text (RowsRefused fault) = printed (Refused fault)
answer_text text Piece = text
answer_text text other = []

-- in all turns at socket o
abbrev pub answer_texts : ℕ → List Work → List ℕ
answer_texts o [] = []
answer_texts o (enters p j text turned deeds said ∷ later) = if nat_eq p o then answer_text text turned ++ answer_texts o later else answer_texts o later
answer_texts o (other ∷ later) = answer_texts o later

-- its connection ended at a turn at which no read and no write failed: the office sent no more, and was answered
abbrev pub IsLeftWell : ℕ → EntryTurned → List Deed → Type 0
IsLeftWell o Over deeds = deeds ≡ left o ∷ []
IsLeftWell o other deeds = ⊥

abbrev pub EndsWell : ℕ → List Work → Type 0
EndsWell o [] = ⊥
EndsWell o (enters p j text turned deeds said ∷ later) = ((p ≡ o) × IsLeftWell o turned deeds) ⊎ EndsWell o later
EndsWell o (other ∷ later) = EndsWell o later

module _ {R J : Type 0} (g : Ghosts R) (jg : JournalGhosts R J) where
  -- the result of a line at the desk: its command is entered, and then it gets this answer; or it asks for a check, and gets this report; or
  -- it asks for the status, and gets this one; or it asks for a journal
  abbrev pub ComesTo : List ℕ → Desk R → EntryTurned → Desk R → Type 0
  ComesTo line old (Answered answer) new = AnswersLine (EntersAtDesk g) line old answer new
  ComesTo line old (Lost answer) new = AnswersLine (EntersAtDesk g) line old answer new
  ComesTo line old (Checked report) new = ChecksLine g line old report new
  ComesTo line old (CheckLost report) new = ChecksLine g line old report new
  ComesTo line old (StatusAnswered status) new = IsStatusOf g line old status new
  ComesTo line old StatusLost new = IsStatusLine line × (new ≡ old)
  ComesTo line old (JournalBegun behind) new = IsJournalAfter line behind × (new ≡ old)
  ComesTo line old Stops new = (line ≡ codes "stop") × (new ≡ old)
  ComesTo line old other new = ⊥

  -- the same for the next of the lines, if one ended
  abbrev pub TakesLine : Bool → Desk R → EntryTurned → Desk R → (List (List ℕ) → Type 0) → List (List ℕ) → Type 0
  TakesLine false old turned mid AreLater lines = AreLater lines
  TakesLine true old turned mid AreLater [] = ⊥
  TakesLine true old turned mid AreLater (line ∷ lines) = ComesTo line old turned mid × AreLater lines

module _ {R J W : Type 0} (g : Ghosts R) (jg : JournalGhosts R J) (owes : W → List ℕ) where
  -- these lines ended in the turns at socket o, one in each, and nothing else
  abbrev pub LinesCome : (o : ℕ) (works : List Work) (old new : Desk R) (here next : Place J W) → Goes g jg owes old here works new next → List (List ℕ) → Type 0
  LinesCome o [] old new here next goes lines = lines ≡ []
  LinesCome o (enters p j text turned deeds said ∷ later) old new here next goes lines =
      TakesLine g jg (nat_eq p o && ends_line turned) old turned goes.0 (LinesCome o later goes.0 new goes.1 next goes.3) lines
  LinesCome o (other ∷ later) old new here next goes lines = LinesCome o later goes.0 new goes.1 next goes.3 lines

  -- these bytes were read of socket o, and those were written to it
  pub record IsOfficeStream (o : ℕ) (works : List Work) (old new : Desk R) (here next : Place J W) (goes : Goes g jg owes old here works new next) (read written : List ℕ) : Type 0 where
    pub lines : List (List ℕ)
    pub more : List (List ℕ)
    pub unwritten : List ℕ
    -- the first lines of what was read ended, each once and in their order
    pub ended : lines_in read ≡ lines ++ more
    pub come : LinesCome o works old new here next goes lines
    -- their answers were written, except for the unwritten rest
    pub answered : answer_texts o works ≡ written ++ unwritten
    -- if the connection ended well, no line and no text is left
    pub all : EndsWell o works → (more ≡ []) × (unwritten ≡ [])

  -- for a socket of the land office that came once, and for all else that may be done
  abbrev pub OfficeIsAnswered : Type 0
  OfficeIsAnswered = (o k : ℕ) (before later : List Work) (old mid new : Desk R) (first here next : Place J W)
      → IsEmpty first → Goes g jg owes old first before mid here → (goes : Goes g jg owes mid here (office_comes o k ∷ later) new next)
      → comes o (all_deeds before) ≡ false → comes o (all_deeds later) ≡ false
      → IsOfficeStream o (office_comes o k ∷ later) mid new here next goes (given_by o (all_deeds (before ++ office_comes o k ∷ later))) (taken_by o (all_deeds (before ++ office_comes o k ∷ later)))
