-- Turns of the land office's connection before the clients have theirs (own profile).
use Rattle.std.specs.Prelude.{◌≡◌, ◌⊎◌, ℕ, ◌≤◌, Bool, true, false, ◌&&◌, List, [], ◌∷◌, ◌++◌, length, Option, None, Some, is_none, if◌then◌else◌}
use Rattle.cad_network.specs.Deeds.{Deed}
use Rattle.cad_versions.specs.declared.fault.RegisterFault.TheVariants.{Store}
use Rattle.cad_stream.specs.declared.responder.Responder.{Ghosts}
use Rattle.cad_stream.specs.declared.journal_responder.JournalResponder.{Ghosts as JournalGhosts}
use Rattle.cad_desk.specs.declared.desk.Desk.{Desk}
use Rattle.cad_office.specs.declared.print.Answer.{Answer}
use Rattle.cad_office.specs.declared.print.Answer.TheVariants.{Entered, Refused, NotACommand}
use Rattle.cad_dry_run.specs.Reports.{answer_of}
use Rattle.cad_office_socket.specs.declared.entry.Entry.{Entry}
use Rattle.cad_office_socket.specs.declared.turned.EntryServed.{EntryServed}
use Rattle.cad_office_socket.specs.declared.turned.EntryServed.TheVariants as entry_served
use Rattle.cad_office_socket.specs.declared.turned.EntryTurned.{EntryTurned}
use Rattle.cad_office_socket.specs.declared.turned.EntryTurned.TheVariants.{Wrote, Took, Added, Answered, Lost, Checked, CheckLost, StatusAnswered, StatusLost, JournalBegun, RowsRead, RowsRefused, RowsLost, Piece, PieceLost, Stops, Waits, Over}
use Rattle.cad_office_socket.specs.declared.figures.Figures.{Figures}
use Rattle.cad_office_socket.specs.Counting.{figures_in, AllShowFigures}
use Rattle.cad_office_socket.specs.Turns.{unwritten, IsEntryTurn}

-- the register's database refused the command
abbrev pub is_store : Answer → Bool
is_store (Entered revision) = false
is_store (Refused Store) = true
is_store (Refused fault) = false
is_store NotACommand = false

-- how a turn ends the serving of the office, if it does: a refusal by the database ends it whether or not there was memory for its answer
abbrev pub end_at : EntryTurned → Option EntryServed
end_at Wrote = None
end_at Took = None
end_at Added = None
end_at (Answered answer) = if is_store answer then Some entry_served.StoreRefused else None
end_at (Lost answer) = if is_store answer then Some entry_served.StoreRefused else Some entry_served.Over
end_at (Checked report) = if is_store (answer_of report) then Some entry_served.StoreRefused else None
end_at (CheckLost report) = if is_store (answer_of report) then Some entry_served.StoreRefused else Some entry_served.Over
end_at (StatusAnswered status) = None
end_at StatusLost = Some entry_served.Over
end_at (JournalBegun behind) = None
end_at RowsRead = None
end_at (RowsRefused fault) = if is_store (Refused fault) then Some entry_served.StoreRefused else None
end_at (RowsLost fault) = if is_store (Refused fault) then Some entry_served.StoreRefused else Some entry_served.Over
end_at Piece = None
end_at PieceLost = Some entry_served.Over
end_at Stops = Some entry_served.Stops
end_at Waits = Some entry_served.Waits
end_at Over = Some entry_served.Over

-- none of these turns ends serving
abbrev pub all_go_on : List EntryTurned → Bool
all_go_on [] = true
all_go_on (turned ∷ turns) = is_none (end_at turned) && all_go_on turns

-- the most turns
abbrev pub most_turns : ℕ
most_turns = 8

-- the turns, the last one first: none before the last ends serving; the last ends it, or it does not and the number of turns is the most,
-- or an answer is fully written, or rows of a journal were read; and there are at most that many turns
abbrev pub IsEnough : {J : Type 0} → List EntryTurned → EntryServed → Entry J → Type 0
IsEnough [] served next = ⊥
IsEnough (turned ∷ before) served next =
    (all_go_on before ≡ true) × ((end_at turned ≡ Some served) ⊎ ((end_at turned ≡ None) × (served ≡ entry_served.Goes)
    × ((length (turned ∷ before) ≡ most_turns) ⊎ (((turned ≡ Wrote) × (unwritten next ≡ [])) ⊎ (turned ≡ RowsRead)))))
    × (length (turned ∷ before) ≤ most_turns)

module _ {R J : Type 0} (g : Ghosts R) (j : JournalGhosts R J) (s : ℕ) where
  -- the office has these turns at its socket s, the last of them first
  abbrev pub HasTurns : Desk R → Entry J → List EntryTurned → Desk R → Entry J → List Deed → Type 0
  HasTurns old entry [] new next deeds = (deeds ≡ []) × (new ≡ old) × (next ≡ entry)
  HasTurns old entry (turned ∷ before) new next deeds =
      (mid : Desk R) × (between : Entry J) × (front : List Deed) × (last : List Deed)
      × HasTurns old entry before mid between front × IsEntryTurn g j s mid between turned new next last × (deeds ≡ front ++ last)

  -- the office is served with turns, as many as are enough for now; the first figures count the answers, and a status shows those of its time
  abbrev pub IsEntryServed : Figures → Figures → Desk R → Entry J → EntryServed → Desk R → Entry J → List Deed → Type 0
  IsEntryServed first last old entry served new next deeds =
      (turns : List EntryTurned) × HasTurns old entry turns new next deeds × IsEnough turns served next × AllShowFigures first turns × (last ≡ figures_in first turns)
