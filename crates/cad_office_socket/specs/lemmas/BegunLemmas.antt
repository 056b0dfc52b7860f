-- A line that has begun, over a turn.
use Rattle.std.proofs.Common.{ℕ, List, [], ◌++◌, subst, sym, inl, inr}
use Rattle.cad_network.specs.Deeds.{Deed}
use Rattle.cad_stream.specs.declared.responder.Responder.{Ghosts}
use Rattle.cad_stream.specs.declared.journal_responder.JournalResponder.{Ghosts as JournalGhosts}
use Rattle.cad_desk.specs.declared.desk.Desk.{Desk}
use Rattle.cad_office_socket.specs.declared.entry.Entry.{Entry}
use Rattle.cad_office_socket.specs.declared.turned.EntryTurned.{EntryTurned}
use Rattle.cad_office_socket.specs.declared.turned.EntryTurned.TheVariants.{Wrote, Took, Added, Answered, Lost, Checked, CheckLost, StatusAnswered, StatusLost, JournalBegun, RowsRead, RowsRefused, RowsLost, Piece, PieceLost, Stops, Waits, Over}
use Rattle.cad_office_socket.specs.Turns.{HasBegun, IsBegun, EndsLine, IsTaken, IsEntryTurn}

-- a line has begun, unless the connection is over
abbrev pub Later : {J : Type 0} → EntryTurned → Entry J → Type 0
Later Over next = Unit {0}
Later other next = IsBegun next

module _ {R J : Type 0} (g : Ghosts R) (j : JournalGhosts R J) where
  ended : (text : List ℕ) (turned : EntryTurned) (old new : Desk R) (next : Entry J) → EndsLine g j text old turned new next → Later turned next
  ended text Added old new next e = ([], e.3)
  ended text (Answered answer) old new next e = ([], e.3)
  ended text (Lost answer) old new next e = ([], e.3)
  ended text (Checked report) old new next e = ([], e.2)
  ended text (CheckLost report) old new next e = ([], e.2)
  ended text (StatusAnswered status) old new next e = ([], e.2)
  ended text StatusLost old new next e = ([], e.3)
  ended text (JournalBegun behind) old new next e = ([], e.4)
  ended text RowsRead old new next e = absurd e
  ended text (RowsRefused fault) old new next e = absurd e
  ended text (RowsLost fault) old new next e = absurd e
  ended text Piece old new next e = absurd e
  ended text PieceLost old new next e = absurd e
  ended text Stops old new next e = ([], e.3)
  ended text Over old new next e = absurd e
  ended text Wrote old new next e = absurd e
  ended text Took old new next e = absurd e
  ended text Waits old new next e = absurd e

  taken_later : (s : ℕ) (deeds : List Deed) (begun : List ℕ) (turned : EntryTurned) (old new : Desk R) (entry next : Entry J) → HasBegun begun entry → IsTaken g j s old entry turned new next deeds → Later turned next
  taken_later s deeds begun turned old new entry next has t = elim t.1 [
    | inl some ↦
        let f = some.2 begun has in
        elim f.2 [
          | inl goes ↦ subst (λ (it : EntryTurned). Later it next) (sym goes.0) (begun ++ f.0, goes.5)
          | inr ends ↦ ended (begun ++ f.0) turned old new next ends.1
        ]
    | inr last ↦ ended begun turned old new next (last.2 begun has).0
  ]

  pub begun_later : (s : ℕ) (turned : EntryTurned) (old new : Desk R) (entry next : Entry J) (deeds : List Deed) → IsBegun entry → IsEntryTurn g j s old entry turned new next deeds → Later turned next
  begun_later s Wrote old new entry next deeds begun t = (begun.0, rw t.5 begun.1)
  begun_later s Took old new entry next deeds begun t = (begun.0, rw t.6 begun.1)
  begun_later s Added old new entry next deeds begun t = taken_later s deeds begun.0 Added old new entry next begun.1 t
  begun_later s (Answered answer) old new entry next deeds begun t = taken_later s deeds begun.0 (Answered answer) old new entry next begun.1 t
  begun_later s (Lost answer) old new entry next deeds begun t = taken_later s deeds begun.0 (Lost answer) old new entry next begun.1 t
  begun_later s (Checked report) old new entry next deeds begun t = taken_later s deeds begun.0 (Checked report) old new entry next begun.1 t
  begun_later s (CheckLost report) old new entry next deeds begun t = taken_later s deeds begun.0 (CheckLost report) old new entry next begun.1 t
  begun_later s (StatusAnswered status) old new entry next deeds begun t = taken_later s deeds begun.0 (StatusAnswered status) old new entry next begun.1 t
  begun_later s StatusLost old new entry next deeds begun t = taken_later s deeds begun.0 StatusLost old new entry next begun.1 t
  begun_later s (JournalBegun behind) old new entry next deeds begun t = taken_later s deeds begun.0 (JournalBegun behind) old new entry next begun.1 t
  begun_later s RowsRead old new entry next deeds begun t = (begun.0, rw t.2.4.1 begun.1)
  begun_later s (RowsRefused fault) old new entry next deeds begun t = (begun.0, rw t.2.4.1 begun.1)
  begun_later s (RowsLost fault) old new entry next deeds begun t = (begun.0, rw t.2.4.1 begun.1)
  begun_later s Piece old new entry next deeds begun t = (begun.0, rw t.2.1.1 begun.1)
  begun_later s PieceLost old new entry next deeds begun t = (begun.0, rw t.2.2.1 begun.1)
  begun_later s Stops old new entry next deeds begun t = taken_later s deeds begun.0 Stops old new entry next begun.1 t
  begun_later s Waits old new entry next deeds begun t = (begun.0, subst (λ (it : Entry J). HasBegun begun.0 it) (sym t.3) begun.1)
  begun_later s Over old new entry next deeds begun t = tt
