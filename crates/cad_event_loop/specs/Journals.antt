-- What is written of a journal that the land office requested, a piece at a time (own profile).
use Rattle.std.specs.Prelude.{◌≡◌, ◌⊎◌, ◌≤◌, ◌<◌, ℕ, nat_eq, Bool, true, false, List, [], ◌∷◌, ◌++◌, length, drop, if◌then◌else◌}
use Rattle.cad_versions.specs.declared.command.Command.{Command}
use Rattle.cad_versions.specs.declared.fault.RegisterFault.{RegisterFault}
use Rattle.cad_versions.specs.declared.fault.RegisterFault.TheVariants.{Memory, UnknownRevision}
use Rattle.cad_stream.specs.declared.responder.Responder.{Ghosts}
use Rattle.cad_stream.specs.declared.journal_responder.JournalResponder.{Ghosts as JournalGhosts}
use Rattle.cad_desk.specs.declared.desk.Desk.{Desk}
use Rattle.cad_desk.specs.Desks.{responder_of}
use Rattle.cad_network.specs.Deeds.{Deed}
use Rattle.cad_office.specs.declared.print.Answer.TheVariants.{Refused}
use Rattle.cad_office.specs.Answers.{printed}
use Rattle.cad_office.specs.JournalLines.{lines_of, end_line}
use Rattle.cad_office_socket.specs.declared.turned.EntryTurned.{EntryTurned}
use Rattle.cad_office_socket.specs.declared.turned.EntryTurned.TheVariants.{Wrote, JournalBegun, RowsRead, RowsRefused, RowsLost, Piece, PieceLost, Waits, Over}
use Rattle.cad_event_loop.specs.Works.{Place, Said, Work, enters, office_leaves, IsEmpty, Goes, MayGoOn}
use Rattle.cad_event_loop.specs.Laws.{commands_in}

-- The text of the journal that is to be written by a turn, and by the turns after it. A turn in which bytes are read or taken, or in which
-- the connection is over, writes none, and ends the journal.
abbrev pub journal_text_by : List ℕ → EntryTurned → List ℕ → List ℕ
journal_text_by text Wrote later = later
journal_text_by text Waits later = later
journal_text_by text RowsRead later = later
journal_text_by text (RowsRefused fault) later = printed (Refused fault) ++ later
journal_text_by text Piece later = text ++ later
journal_text_by text other later = []

-- in the turns of connection k, up to its end
abbrev pub journal_text_in : ℕ → List Work → List ℕ
journal_text_in k [] = []
journal_text_in k (enters o j text turned deeds said ∷ later) = if nat_eq j k then journal_text_by text turned (journal_text_in k later) else journal_text_in k later
journal_text_in k (office_leaves o j overdue ∷ later) = if nat_eq j k then [] else journal_text_in k later
journal_text_in k (other ∷ later) = journal_text_in k later

-- bytes are read or taken in the turn that ends the journal
abbrev pub takes_by : EntryTurned → Bool → Bool
takes_by Wrote later = later
takes_by Waits later = later
takes_by RowsRead later = later
takes_by (RowsRefused fault) later = later
takes_by Piece later = later
takes_by (RowsLost fault) later = false
takes_by PieceLost later = false
takes_by Over later = false
takes_by other later = true

-- by connection k, before its end
abbrev pub takes_in : ℕ → List Work → Bool
takes_in k [] = false
takes_in k (enters o j text turned deeds said ∷ later) = if nat_eq j k then takes_by turned (takes_in k later) else takes_in k later
takes_in k (office_leaves o j overdue ∷ later) = if nat_eq j k then false else takes_in k later
takes_in k (other ∷ later) = takes_in k later

-- this is the beginning of the text: all of it, if bytes were read or taken after it
abbrev pub IsBeginningOf : List ℕ → List ℕ → Bool → Type 0
IsBeginningOf whole told takes = (rest : List ℕ) × (whole ≡ told ++ rest) × (takes ≡ true → rest ≡ [])

-- the commands after a revision as lines, and then the newest revision
abbrev pub journal_text : List Command → ℕ → List ℕ
journal_text commands behind = lines_of (drop behind commands) ++ end_line (length commands)

module _ {R J : Type 0} (g : Ghosts R) (jg : JournalGhosts R J) where
  -- why the office gets no journal: there is no such revision; or memory ran out; or rows were not read, with these commands and later
  -- ones in force
  abbrev pub IsRefusal : List Command → ℕ → RegisterFault → Type 0
  IsRefusal commands behind fault =
      ((length commands < behind) × (fault ≡ UnknownRevision)) ⊎ ((behind ≤ length commands) × ((fault ≡ Memory) ⊎ ((later : List Command) × jg.fails_to_read (commands ++ later) fault)))

  -- the office requested the journal after this revision, with these commands in force: that journal is written, or why it is not
  abbrev pub IsJournalWritten : List Command → ℕ → List ℕ → Bool → Type 0
  IsJournalWritten commands behind told takes =
      ((behind ≤ length commands) × IsBeginningOf (journal_text commands behind) told takes)
      ⊎ ((fault : RegisterFault) × IsRefusal commands behind fault × IsBeginningOf (printed (Refused fault)) told takes)

module _ {R J W : Type 0} (g : Ghosts R) (jg : JournalGhosts R J) (owes : W → List ℕ) where
  -- for each line that asks for a journal, with the commands in force when it ended, and for all else that may be done
  abbrev pub JournalsAreWritten : Type 0
  JournalsAreWritten = (o k behind : ℕ) (text : List ℕ) (deeds : List Deed) (said : Said) (commands : List Command) (before later : List Work) (old new : Desk R) (first next : Place J W)
      → IsEmpty first → (goes : Goes g jg owes old first (before ++ enters o k text (JournalBegun behind) deeds said ∷ later) new next)
      → MayGoOn g jg owes (before ++ enters o k text (JournalBegun behind) deeds said ∷ later) old new first next goes
      → g.counts (responder_of new) → g.stands_for (responder_of old) commands
      → IsJournalWritten g jg (commands_in commands before) behind (journal_text_in k later) (takes_in k later)
