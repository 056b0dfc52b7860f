-- What turns of the land office are among all that is done.
use Rattle.std.specs.Prelude.{⊤}
use Rattle.std.proofs.Common.{◌≡◌, ℕ, nat_eq, ◌+◌, ◌<◌, ◌≤◌, Bool, true, false, not, ◌&&◌, List, length, length-append, [], ◌∷◌, ◌++◌, Option, None, Some, is_none, Ok, Err, refl, sym, ap, subst, ◌∙◌, append-nil, append_assoc, inl, inr, if◌then◌else◌, arith}
use Rattle.std.proofs.lemmas.Bool.{cases_lt, eqb-true, eq-eqb}
use Rattle.std.proofs.lemmas.Option.{slice_get_past}
use Rattle.cad_stream.specs.declared.responder.Responder.{Ghosts}
use Rattle.cad_stream.specs.declared.journal_responder.JournalResponder.{Ghosts as JournalGhosts}
use Rattle.cad_desk.specs.declared.desk.Desk.{Desk}
use Rattle.cad_desk.specs.declared.event.Event.TheVariants.{Office as Entering}
use Rattle.cad_desk.specs.declared.event.Reply.TheVariants as reply
use Rattle.cad_desk.specs.Faults.{fault_of}
use Rattle.cad_network.specs.Deeds.{Deed, office_came, left, Adds, AddsSome}
use Rattle.cad_network.specs.lemmas.DeedLemmas.{Adds-trans}
use Rattle.cad_office.specs.declared.print.Answer.{Answer}
use Rattle.cad_office.specs.declared.print.Answer.TheVariants.{Entered, Refused, NotACommand}
use Rattle.cad_office.specs.Keeping.{AnswersLine}
use Rattle.cad_office_socket.specs.declared.entry.Entry.{Entry}
use Rattle.cad_office_socket.specs.declared.turned.EntryServed.{EntryServed}
use Rattle.cad_office_socket.specs.declared.turned.EntryServed.TheVariants as served
use Rattle.cad_office_socket.specs.declared.turned.EntryTurned.{EntryTurned}
use Rattle.cad_office_socket.specs.declared.turned.EntryTurned.TheVariants.{Wrote, Took, Added, Answered, Lost, Checked, CheckLost, StatusAnswered, StatusLost, JournalBegun, RowsRead, RowsRefused, RowsLost, Piece, PieceLost, Stops, Waits, Over}
use Rattle.cad_desk.specs.Desks.{ChecksAtDesk}
use Rattle.cad_dry_run.specs.declared.report.Report.{Report}
use Rattle.cad_dry_run.specs.declared.report.Report.TheVariants as report
use Rattle.cad_dry_run.specs.Reports.{answer_of}
use Rattle.cad_dry_run.specs.Checking.{ReportsLine}
use Rattle.cad_office_socket.specs.Entries.{EntersAtDesk}
use Rattle.cad_office_socket.specs.Turns.{unwritten, HasBegun, IsBegun, EndsLine, IsTaken, IsEntryTurn, IsNewEntry, IsSending, SendsSome}
use Rattle.cad_office_socket.specs.declared.journal_state.JournalRequest.{JournalRequest}
use Rattle.cad_office_socket.specs.declared.journal_state.JournalState.{JournalState}
use Rattle.cad_office_socket.specs.declared.journal_state.JournalState.TheVariants.{Idle, Rejected, Reading, Writing}
use Rattle.cad_office_socket.specs.Journals.{IsRead}
use Rattle.cad_office_socket.specs.declared.figures.Figures.{Figures}
use Rattle.cad_office_socket.specs.Serving.{is_store, end_at, all_go_on, most_turns, IsEnough, HasTurns, IsEntryServed}
use Rattle.cad_office_socket.specs.lemmas.BegunLemmas.{Later, begun_later}
use Rattle.cad_clients.specs.declared.clients.Clients.{Clients}
use Rattle.cad_event_loop.specs.declared.office.Office.{Office}
use Rattle.cad_event_loop.specs.declared.offices.Offices.{Offices}
use Rattle.cad_event_loop.specs.declared.stopped.Stopped.{Stopped}
use Rattle.cad_event_loop.specs.Hosting.{Each, IsServing, IsClosing, Hosts, Serves}
use Rattle.cad_event_loop.specs.inner.Offices.{office_at, offices_at, seat_in, seat_at, Seats, HasBegun as OfficeHasBegun, HaveBegun, HaveBegunUnless, IsOfficeSending, end_of_office, is_over, may_go_on, left_deeds, left_at, HasOfficeTurns, HasSent}
use Rattle.cad_event_loop.specs.Works.{event, question, rows, Said, AtOffice, AtOffices, Place, Puts, Same, place_of, Held, Work, enters, office_comes, office_leaves, aside, all_deeds, store_end, end_of_turned, end_in, EndsBy, is_last, SaysSo, ChecksSo, IsLineSaid, IsPieceWritten, Tells, Works, Goes}
use Rattle.cad_event_loop.proofs.LifeLemmas.{none_some, one_some}
use Rattle.cad_event_loop.specs.inner.Line.{standing_at}
use Rattle.cad_event_loop.specs.inner.Standing.{standing_office, standings_of, IsPaced, IsAtDoors, ServesOffice}
use Rattle.cad_event_loop.specs.Turns.{Standing, absent, waiting, ready, Standings, stands_in, office_in, line_in, office_turned, is_turn_of, is_office_turn, any_of, has_turn}
use Rattle.cad_event_loop.proofs.StandingLemmas.{stands_in-append, office_in-append, line_in-append, any_right, any_none, one_of, office_passes}
use Rattle.cad_event_loop.proofs.GoesLemmas.{all_deeds-append, or_nothing, goes-append, end_in-append, ends-then, ends-one, each-append, hosts-one, serves-one, put_same}

-- a line of it has begun, if hosting continues
abbrev pub BegunUnless : {S J : Type 0} → Option Stopped → Option (Office S J) → Type 0
BegunUnless None office = OfficeHasBegun office
BegunUnless (Some stopped) office = ⊤

-- what is left after a turn, as serving tells it
abbrev end_of_some : Option EntryServed → Option Stopped
end_of_some None = None
end_of_some (Some it) = end_of_office it

abbrev over_of_some : Option EntryServed → Bool
over_of_some None = false
over_of_some (Some it) = is_over it

same_end : (turned : EntryTurned) → end_of_turned turned ≡ end_of_some (end_at turned)
same_end Wrote = refl
same_end Took = refl
same_end Added = refl
same_end (Answered answer) = go (is_store answer)
  where
    go : (refused : Bool) → store_end refused ≡ end_of_some (if refused then Some served.StoreRefused else None)
    go true = refl
    go false = refl
same_end (Lost answer) = go (is_store answer)
  where
    go : (refused : Bool) → store_end refused ≡ end_of_some (if refused then Some served.StoreRefused else Some served.Over)
    go true = refl
    go false = refl
same_end (Checked it) = go (is_store (answer_of it))
  where
    go : (refused : Bool) → store_end refused ≡ end_of_some (if refused then Some served.StoreRefused else None)
    go true = refl
    go false = refl
same_end (CheckLost it) = go (is_store (answer_of it))
  where
    go : (refused : Bool) → store_end refused ≡ end_of_some (if refused then Some served.StoreRefused else Some served.Over)
    go true = refl
    go false = refl
same_end (StatusAnswered status) = refl
same_end StatusLost = refl
same_end (JournalBegun behind) = refl
same_end RowsRead = refl
same_end (RowsRefused fault) = go (is_store (Refused fault))
  where
    go : (refused : Bool) → store_end refused ≡ end_of_some (if refused then Some served.StoreRefused else None)
    go true = refl
    go false = refl
same_end (RowsLost fault) = go (is_store (Refused fault))
  where
    go : (refused : Bool) → store_end refused ≡ end_of_some (if refused then Some served.StoreRefused else Some served.Over)
    go true = refl
    go false = refl
same_end Piece = refl
same_end PieceLost = refl
same_end Stops = refl
same_end Waits = refl
same_end Over = refl

same_last : (turned : EntryTurned) → is_last turned ≡ over_of_some (end_at turned)
same_last Wrote = refl
same_last Took = refl
same_last Added = refl
same_last (Answered answer) = go (is_store answer)
  where
    go : (refused : Bool) → false ≡ over_of_some (if refused then Some served.StoreRefused else None)
    go true = refl
    go false = refl
same_last (Lost answer) = go (is_store answer)
  where
    go : (refused : Bool) → not refused ≡ over_of_some (if refused then Some served.StoreRefused else Some served.Over)
    go true = refl
    go false = refl
same_last (Checked it) = go (is_store (answer_of it))
  where
    go : (refused : Bool) → false ≡ over_of_some (if refused then Some served.StoreRefused else None)
    go true = refl
    go false = refl
same_last (CheckLost it) = go (is_store (answer_of it))
  where
    go : (refused : Bool) → not refused ≡ over_of_some (if refused then Some served.StoreRefused else Some served.Over)
    go true = refl
    go false = refl
same_last (StatusAnswered status) = refl
same_last StatusLost = refl
same_last (JournalBegun behind) = refl
same_last RowsRead = refl
same_last (RowsRefused fault) = go (is_store (Refused fault))
  where
    go : (refused : Bool) → false ≡ over_of_some (if refused then Some served.StoreRefused else None)
    go true = refl
    go false = refl
same_last (RowsLost fault) = go (is_store (Refused fault))
  where
    go : (refused : Bool) → not refused ≡ over_of_some (if refused then Some served.StoreRefused else Some served.Over)
    go true = refl
    go false = refl
same_last Piece = refl
same_last PieceLost = refl
same_last Stops = refl
same_last Waits = refl
same_last Over = refl

-- how it stands after a turn, as serving tells it
abbrev stand_of_served : EntryServed → Standing
stand_of_served end = if is_over end then absent else (if may_go_on end then ready else waiting)

abbrev stand_of_some : Option EntryServed → Standing
stand_of_some None = ready
stand_of_some (Some end) = stand_of_served end

same_stand : (turned : EntryTurned) → office_turned (is_last turned) turned ≡ stand_of_some (end_at turned)
same_stand Wrote = refl
same_stand Took = refl
same_stand Added = refl
same_stand (Answered answer) = go (is_store answer)
  where
    go : (refused : Bool) → ready ≡ stand_of_some (if refused then Some served.StoreRefused else None)
    go true = refl
    go false = refl
same_stand (Lost answer) = go (is_store answer)
  where
    go : (refused : Bool) → office_turned (not refused) (Lost answer) ≡ stand_of_some (if refused then Some served.StoreRefused else Some served.Over)
    go true = refl
    go false = refl
same_stand (Checked it) = go (is_store (answer_of it))
  where
    go : (refused : Bool) → ready ≡ stand_of_some (if refused then Some served.StoreRefused else None)
    go true = refl
    go false = refl
same_stand (CheckLost it) = go (is_store (answer_of it))
  where
    go : (refused : Bool) → office_turned (not refused) (CheckLost it) ≡ stand_of_some (if refused then Some served.StoreRefused else Some served.Over)
    go true = refl
    go false = refl
same_stand (StatusAnswered status) = refl
same_stand StatusLost = refl
same_stand (JournalBegun behind) = refl
same_stand RowsRead = refl
same_stand (RowsRefused fault) = go (is_store (Refused fault))
  where
    go : (refused : Bool) → ready ≡ stand_of_some (if refused then Some served.StoreRefused else None)
    go true = refl
    go false = refl
same_stand (RowsLost fault) = go (is_store (Refused fault))
  where
    go : (refused : Bool) → office_turned (not refused) (RowsLost fault) ≡ stand_of_some (if refused then Some served.StoreRefused else Some served.Over)
    go true = refl
    go false = refl
same_stand Piece = refl
same_stand PieceLost = refl
same_stand Stops = refl
same_stand Waits = refl
same_stand Over = refl

both_go : (end : Option EntryServed) (rest : Bool) → (is_none end && rest) ≡ true → (end ≡ None) × (rest ≡ true)
both_go None rest both = (refl, both)
both_go (Some it) rest both = absurd (let clash : false ≡ true = both in cc)

-- of what goes on a line has begun
abbrev BegunIf : {J : Type 0} → Option EntryServed → Entry J → Type 0
BegunIf None next = IsBegun next
BegunIf (Some served.Goes) next = IsBegun next
BegunIf (Some served.Waits) next = IsBegun next
BegunIf (Some served.Over) next = ⊤
BegunIf (Some served.Stops) next = ⊤
BegunIf (Some served.StoreRefused) next = ⊤

begun_then : {J : Type 0} (turned : EntryTurned) (next : Entry J) → Later turned next → BegunIf (end_at turned) next
begun_then Wrote next l = l
begun_then Took next l = l
begun_then Added next l = l
begun_then (Answered answer) next l = go (is_store answer) l
  where
    go : (refused : Bool) → IsBegun next → BegunIf (if refused then Some served.StoreRefused else None) next
    go true l = tt
    go false l = l
begun_then (Lost answer) next l = go (is_store answer)
  where
    go : (refused : Bool) → BegunIf (if refused then Some served.StoreRefused else Some served.Over) next
    go true = tt
    go false = tt
begun_then (Checked it) next l = go (is_store (answer_of it)) l
  where
    go : (refused : Bool) → IsBegun next → BegunIf (if refused then Some served.StoreRefused else None) next
    go true l = tt
    go false l = l
begun_then (CheckLost it) next l = go (is_store (answer_of it))
  where
    go : (refused : Bool) → BegunIf (if refused then Some served.StoreRefused else Some served.Over) next
    go true = tt
    go false = tt
begun_then (StatusAnswered status) next l = l
begun_then StatusLost next l = tt
begun_then (JournalBegun behind) next l = l
begun_then RowsRead next l = l
begun_then (RowsRefused fault) next l = go (is_store (Refused fault)) l
  where
    go : (refused : Bool) → IsBegun next → BegunIf (if refused then Some served.StoreRefused else None) next
    go true l = tt
    go false l = l
begun_then (RowsLost fault) next l = go (is_store (Refused fault))
  where
    go : (refused : Bool) → BegunIf (if refused then Some served.StoreRefused else Some served.Over) next
    go true = tt
    go false = tt
begun_then Piece next l = l
begun_then PieceLost next l = tt
begun_then Stops next l = tt
begun_then Waits next l = l
begun_then Over next l = tt

module _ {R J W : Type 0} (g : Ghosts R) (jg : JournalGhosts R J) (owes : W → List ℕ) where
  -- what the desk is told by the line that ended, if one did
  abbrev IsSaid : Desk R → EntryTurned → Desk R → Entry J → Type 0
  IsSaid old turned new next = (text : List ℕ) × (said : Said) × IsLineSaid text turned said × Tells g jg old said new × IsPieceWritten text turned next

  answer_said : (text : List ℕ) (answer : Answer) (old new : Desk R) → AnswersLine (EntersAtDesk g) text old answer new → (said : Said) × SaysSo text answer said × Tells g jg old said new
  answer_said text (Entered revision) old new a = (Some (event (Entering a.0) (Ok (reply.Entered revision))), (a.0, a.1, refl), a.2)
  answer_said text (Refused fault) old new a = elim a [
    | inl refused ↦ (Some (event (Entering refused.0) (Err (fault_of fault))), inl (refused.0, refused.1, refl), refused.2)
    | inr none ↦ (None, inr (none.0, none.1, refl), none.2)
  ]
  answer_said text NotACommand old new a = (None, (a.0, refl), a.1)

  check_said : (line : List ℕ) (it : Report) (old new : Desk R) → ReportsLine (ChecksAtDesk g) line old it new → (said : Said) × ChecksSo line it said × Tells g jg old said new
  check_said line (report.WouldBe revision) old new a = (Some (question a.0.0 (Ok revision)), (a.0.0, a.0.1, refl), a.0.2)
  check_said line (report.Refused fault) old new a = elim a.0 [
    | inl refused ↦ (Some (question refused.0 (Err fault)), inl (refused.0, refused.1, refl), refused.2)
    | inr none ↦ (None, inr (none.0, none.1, refl), none.2)
  ]
  check_said line (report.NoCommand reason) old new a = (None, (a.0.0, refl), a.0.1)
  check_said line report.LongLine old new a = (None, (a.0.0, refl), a.0.1)

  ended : (text : List ℕ) (turned : EntryTurned) (old new : Desk R) (next : Entry J) → EndsLine g jg text old turned new next → IsSaid old turned new next
  ended text Added old new next e = (text, None, refl, e.1, tt)
  ended text (Answered answer) old new next e = let s = answer_said text answer old new e.1 in (text, s.0, (e.0, s.1), s.2, tt)
  ended text (Lost answer) old new next e = let s = answer_said text answer old new e.1 in (text, s.0, (e.0, s.1), s.2, tt)
  ended text (Checked it) old new next e = let s = check_said e.0.0 it old new e.0.2 in (text, s.0, (e.0.0, e.0.1, s.1), s.2, tt)
  ended text (CheckLost it) old new next e = let s = check_said e.0.0 it old new e.0.2 in (text, s.0, (e.0.0, e.0.1, s.1), s.2, tt)
  ended text (StatusAnswered status) old new next e = (text, None, (e.0.0, refl), e.0.2, tt)
  ended text StatusLost old new next e = (text, None, (e.0, refl), e.1, tt)
  ended text (JournalBegun behind) old new next e = (text, None, (e.0, refl), e.2, tt)
  ended text RowsRead old new next e = absurd e
  ended text (RowsRefused fault) old new next e = absurd e
  ended text (RowsLost fault) old new next e = absurd e
  ended text Piece old new next e = absurd e
  ended text PieceLost old new next e = absurd e
  ended text Stops old new next e = (text, None, (e.0, refl), e.1, tt)
  ended text Over old new next e = absurd e
  ended text Wrote old new next e = absurd e
  ended text Took old new next e = absurd e
  ended text Waits old new next e = absurd e

  -- rows of a journal were read
  read_said : (old : Desk R) (asked : JournalRequest J) (new : Desk R) (told : JournalState J) → IsRead g jg old asked new told → (whole : Bool) × Tells g jg old (Some (rows (Ok whole))) new
  read_said old asked new (Reading after) r = (false, (asked.reading, after.reading, r.1))
  read_said old asked new Idle r = (true, (asked.reading, r.0, r.1))
  read_said old asked new (Rejected fault) r = (true, (asked.reading, r.0, r.1))
  read_said old asked new (Writing lines) r = (true, (asked.reading, r.0, r.1))

  taken_said : (o : ℕ) (begun : List ℕ) (turned : EntryTurned) (old new : Desk R) (entry next : Entry J) (deeds : List Deed) → HasBegun begun entry → IsTaken g jg o old entry turned new next deeds → IsSaid old turned new next
  taken_said o begun turned old new entry next deeds has t = elim t.1 [
    | inl some ↦
        let f = some.2 begun has in
        elim f.2 [
          | inl goes ↦ subst (λ (it : EntryTurned). IsSaid old it new next) (sym goes.0) ([], None, refl, goes.1, tt)
          | inr ends ↦ ended (begun ++ f.0) turned old new next ends.1
        ]
    | inr last ↦ ended begun turned old new next (last.2 begun has).0
  ]

  turn_said : (o : ℕ) (turned : EntryTurned) (old new : Desk R) (entry next : Entry J) (deeds : List Deed) → IsBegun entry → IsEntryTurn g jg o old entry turned new next deeds → IsSaid old turned new next
  turn_said o Wrote old new entry next deeds begun t = ([], None, refl, t.6, tt)
  turn_said o Took old new entry next deeds begun t = ([], None, refl, t.7, tt)
  turn_said o Added old new entry next deeds begun t = taken_said o begun.0 Added old new entry next deeds begun.1 t
  turn_said o (Answered answer) old new entry next deeds begun t = taken_said o begun.0 (Answered answer) old new entry next deeds begun.1 t
  turn_said o (Lost answer) old new entry next deeds begun t = taken_said o begun.0 (Lost answer) old new entry next deeds begun.1 t
  turn_said o (Checked it) old new entry next deeds begun t = taken_said o begun.0 (Checked it) old new entry next deeds begun.1 t
  turn_said o (CheckLost it) old new entry next deeds begun t = taken_said o begun.0 (CheckLost it) old new entry next deeds begun.1 t
  turn_said o (StatusAnswered status) old new entry next deeds begun t = taken_said o begun.0 (StatusAnswered status) old new entry next deeds begun.1 t
  turn_said o StatusLost old new entry next deeds begun t = taken_said o begun.0 StatusLost old new entry next deeds begun.1 t
  turn_said o (JournalBegun behind) old new entry next deeds begun t = taken_said o begun.0 (JournalBegun behind) old new entry next deeds begun.1 t
  turn_said o RowsRead old new entry next deeds begun t = let r = read_said old t.2.0 new next.journal t.2.2 in ([], Some (rows (Ok r.0)), (r.0, refl), r.1, tt)
  turn_said o (RowsRefused fault) old new entry next deeds begun t = ([], Some (rows (Err fault)), refl, (t.2.0.reading, t.2.2.0, t.2.2.1), tt)
  turn_said o (RowsLost fault) old new entry next deeds begun t = ([], Some (rows (Err fault)), refl, (t.2.0.reading, t.2.2.0, t.2.2.1), tt)
  turn_said o Piece old new entry next deeds begun t = (unwritten next, None, refl, t.2.2, refl)
  turn_said o PieceLost old new entry next deeds begun t = ([], None, refl, t.2.3, tt)
  turn_said o Stops old new entry next deeds begun t = taken_said o begun.0 Stops old new entry next deeds begun.1 t
  turn_said o Waits old new entry next deeds begun t = ([], None, refl, t.2, tt)
  turn_said o Over old new entry next deeds begun t = ([], None, refl, t.1, tt)

  module _ (slots : Held W) (o k : ℕ) where
    abbrev at_offices : AtOffices J → Place J W
    at_offices offices = record { slots = slots; offices = offices }

    -- a turn is one thing
    abbrev IsOneWork : Desk R → AtOffices J → EntryTurned → Desk R → AtOffices J → List Deed → Type 0
    IsOneWork old here turned new there own =
        (text : List ℕ) × (said : Said) × Works g jg owes old (at_offices here) (enters o k text turned (own ++ left_deeds (is_last turned) o) said) new (at_offices there)

    turn_works : (turned : EntryTurned) (old new : Desk R) (here there : AtOffices J) (entry next : Entry J) (own : List Deed) → here k ≡ Some (o, entry) → Puts here there k (left_at (is_last turned) o next) → IsBegun entry
        → IsEntryTurn g jg o old entry turned new next own → IsOneWork old here turned new there own
    turn_works turned old new here there entry next own at puts begun t =
        let said = turn_said o turned old new entry next own begun t in
        (said.0, said.1, (entry, next, own, at, t, refl, said.2, said.3, puts, (λ c. refl), said.4))

    -- the works of these turns change no other connection
    record AreTurns (turns : List EntryTurned) (works : List Work) : Type 0 where
      count : length works ≡ length turns
      stays : (c : ℕ) (old : Standing) → stands_in c old works ≡ old
      lines : (line : List ℕ) → line_in line works ≡ line
      last : (turned : EntryTurned) (before : List EntryTurned) → turns ≡ turned ∷ before → (old : Standing) → office_in k old works ≡ office_turned (is_last turned) turned
      others : (j : ℕ) → nat_eq k j ≡ false → (old : Standing) → office_in j old works ≡ old
      turn : (turned : EntryTurned) (before : List EntryTurned) → turns ≡ turned ∷ before → any_of (is_office_turn k) works ≡ true
      quiet : (c : ℕ) → has_turn c works ≡ false

    last_turn : (turned it : EntryTurned) (before rest : List EntryTurned) → turned ∷ before ≡ it ∷ rest → turned ≡ it
    last_turn turned it before rest e = cc

    turns_more : (turned : EntryTurned) (turns : List EntryTurned) (works : List Work) (text : List ℕ) (deeds : List Deed) (said : Said) → AreTurns turns works → AreTurns (turned ∷ turns) (works ++ enters o k text turned deeds said ∷ [])
    turns_more turned turns works text deeds said are =
        let all = length-append works (enters o k text turned deeds said ∷ []) in
        let count = are.count in
        record {
          count = omega (arith, all, count);
          stays = λ c old. stands_in-append c old works (enters o k text turned deeds said ∷ []) ∙ are.stays c old;
          lines = λ line. line_in-append line works (enters o k text turned deeds said ∷ []) ∙ are.lines line;
          last = λ it rest e old. office_in-append k old works (enters o k text turned deeds said ∷ []) ∙ (rw (eq-eqb k k refl) (ap (λ (one : EntryTurned). office_turned (is_last one) one) (last_turn turned it turns rest e)));
          others = λ j other old. office_in-append j old works (enters o k text turned deeds said ∷ []) ∙ rw other (are.others j other old);
          quiet = λ c. any_none (is_turn_of c) works (enters o k text turned deeds said ∷ []) (are.quiet c) refl;
          turn = λ it rest e. any_right (is_office_turn k) works (enters o k text turned deeds said ∷ []) (one_of (is_office_turn k) (enters o k text turned deeds said) (eq-eqb k k refl));
        }

    turns_none : AreTurns [] []
    turns_none = record {
      count = refl;
      quiet = λ c. refl;
      stays = λ c old. refl;
      lines = λ line. refl;
      others = λ j other old. refl;
      last = λ turned before e old. (let clash : ◌≡◌ {A = List EntryTurned} [] (turned ∷ before) = e in cc);
      turn = λ turned before e. (let clash : ◌≡◌ {A = List EntryTurned} [] (turned ∷ before) = e in cc);
    }

    -- what has this number afterwards, after it had it otherwise
    put_twice : (first mid last : AtOffices J) (one more : AtOffice J) → Puts first mid k one → Puts first last k more → Puts mid last k more
    put_twice first mid last one more x y j = y j ∙ go (nat_eq k j) refl
      where
        go : (same : Bool) → nat_eq k j ≡ same → (if same then more else first j) ≡ (if same then more else mid j)
        go true e = refl
        go false e = sym (x j ∙ rw e refl)

    -- or the other way round
    put_more : (first mid last : AtOffices J) (one more : AtOffice J) → Puts first mid k one → Puts mid last k more → Puts first last k more
    put_more first mid last one more x y j = y j ∙ go (nat_eq k j) refl
      where
        go : (same : Bool) → nat_eq k j ≡ same → (if same then more else mid j) ≡ (if same then more else first j)
        go true e = refl
        go false e = x j ∙ rw e refl

    put_first : (offices : AtOffices J) (one : AtOffice J) → offices k ≡ one → Puts offices offices k one
    put_first offices one at j = go (nat_eq k j) refl
      where
        go : (same : Bool) → nat_eq k j ≡ same → offices j ≡ (if same then one else offices j)
        go true e = ap offices (sym (eqb-true k j e)) ∙ at
        go false e = refl

    put_there : (here there : AtOffices J) (one : AtOffice J) → Puts here there k one → there k ≡ one
    put_there here there one puts = puts k ∙ rw (eq-eqb k k refl) refl

    -- turns that go on
    turns_go : (turns : List EntryTurned) (old new : Desk R) (here : AtOffices J) (entry next : Entry J) (deeds : List Deed) → here k ≡ Some (o, entry) → IsBegun entry → all_go_on turns ≡ true → HasTurns g jg o old entry turns new next deeds
        → (there : AtOffices J) × Puts here there k (Some (o, next)) × (works : List Work) × (deeds ≡ all_deeds works) × (end_in works ≡ None) × Goes g jg owes old (at_offices here) works new (at_offices there) × Each IsServing works × IsBegun next × AreTurns turns works
    turns_go [] old new here entry next deeds at begun go t =
        (here, put_first here (Some (o, next)) (at ∙ ap (λ (it : Entry J). Some (o, it)) (sym t.2)), [], t.0, refl, (t.1, refl), tt, subst IsBegun (sym t.2) begun, turns_none)
    turns_go (turned ∷ before) old new here entry next deeds at begun go t =
        let both = both_go (end_at turned) (all_go_on before) go in
        let first = turns_go before old t.0 here entry t.1 t.2 at begun both.1 t.4 in
        let goes : is_last turned ≡ false = same_last turned ∙ ap over_of_some both.0 in
        let mid : AtOffices J = first.0 in
        let there : AtOffices J = (λ j. if nat_eq k j then Some (o, next) else mid j) in
        let puts : Puts mid there k (Some (o, next)) = (λ j. refl) in
        let one = turn_works turned t.0 new mid there t.1 next t.3 (put_there here mid (Some (o, t.1)) first.1) (subst (λ (last : Bool). Puts mid there k (left_at last o next)) (sym goes) puts) first.7 t.5 in
        let none : end_of_turned turned ≡ None = same_end turned ∙ ap end_of_some both.0 in
        let work = enters o k one.0 turned (t.3 ++ left_deeds (is_last turned) o) one.1 in
        let same : t.3 ++ left_deeds (is_last turned) o ≡ t.3 = rw goes (append-nil t.3) in
        let later = begun_then turned next (begun_later g jg o turned t.0 new t.1 next t.3 first.7 t.5) in (
          there,
          put_more here mid there (Some (o, t.1)) (Some (o, next)) first.1 puts,
          first.2 ++ work ∷ [],
          t.6 ∙ (ap (λ (l : List Deed). l ++ t.3) first.3 ∙ (ap (λ (l : List Deed). all_deeds first.2 ++ l) (sym same ∙ sym (append-nil (t.3 ++ left_deeds (is_last turned) o))) ∙ sym (all_deeds-append first.2 (work ∷ [])))),
          end_in-append first.2 (work ∷ []) ∙ rw (or_nothing (end_of_turned turned), first.4, none) refl,
          goes-append g jg owes first.2 (work ∷ []) old t.0 new (at_offices here) (at_offices mid) (at_offices there) first.5 (new, at_offices there, one.2, (refl, refl)),
          each-append IsServing first.2 (work ∷ []) first.6 (tt, tt),
          subst (λ (end : Option EntryServed). BegunIf end next) both.0 later,
          turns_more turned before first.2 one.0 (t.3 ++ left_deeds (is_last turned) o) one.1 first.8,
        )

    -- and the last one
    turns_end : (end : EntryServed) (turned : EntryTurned) (before : List EntryTurned) (old new : Desk R) (here there : AtOffices J) (entry next : Entry J) (deeds : List Deed) → here k ≡ Some (o, entry) → Puts here there k (left_at (is_over end) o next)
        → IsBegun entry → all_go_on before ≡ true
        → HasTurns g jg o old entry (turned ∷ before) new next deeds → end_of_turned turned ≡ end_of_office end → is_last turned ≡ is_over end
        → (works : List Work) × (deeds ++ left_deeds (is_over end) o ≡ all_deeds works) × EndsBy (end_of_office end) works × Goes g jg owes old (at_offices here) works new (at_offices there) × Each IsServing works × AreTurns (turned ∷ before) works
    turns_end end turned before old new here there entry next deeds at puts begun go t ends over =
        let first = turns_go before old t.0 here entry t.1 t.2 at begun go t.4 in
        let mid : AtOffices J = first.0 in
        let again = put_twice here mid there (Some (o, t.1)) (left_at (is_over end) o next) first.1 puts in
        let one = turn_works turned t.0 new mid there t.1 next t.3 (put_there here mid (Some (o, t.1)) first.1) (subst (λ (last : Bool). Puts mid there k (left_at last o next)) (sym over) again) first.7 t.5 in
        let work = enters o k one.0 turned (t.3 ++ left_deeds (is_last turned) o) one.1 in
        let same : t.3 ++ left_deeds (is_over end) o ≡ t.3 ++ left_deeds (is_last turned) o = ap (λ (last : Bool). t.3 ++ left_deeds last o) (sym over) in (
          first.2 ++ work ∷ [],
          ap (λ (l : List Deed). l ++ left_deeds (is_over end) o) (t.6 ∙ ap (λ (l : List Deed). l ++ t.3) first.3)
              ∙ (append_assoc (all_deeds first.2) t.3 (left_deeds (is_over end) o)
              ∙ (ap (λ (l : List Deed). all_deeds first.2 ++ l) (same ∙ sym (append-nil (t.3 ++ left_deeds (is_last turned) o))) ∙ sym (all_deeds-append first.2 (work ∷ [])))),
          ends-then (end_of_office end) first.2 (work ∷ []) first.4 (ends-one (end_of_office end) work ends),
          goes-append g jg owes first.2 (work ∷ []) old t.0 new (at_offices here) (at_offices mid) (at_offices there) first.5 (new, at_offices there, one.2, (refl, refl)),
          each-append IsServing first.2 (work ∷ []) first.6 (tt, tt),
          turns_more turned before first.2 one.0 (t.3 ++ left_deeds (is_last turned) o) one.1 first.8,
        )

    -- eight turns at most, after which it stands so
    record AreFew (end : EntryServed) (works : List Work) : Type 0 where
      few : length works ≤ most_turns
      stays : (c : ℕ) (old : Standing) → stands_in c old works ≡ old
      lines : (line : List ℕ) → line_in line works ≡ line
      last : (old : Standing) → office_in k old works ≡ stand_of_served end
      others : (j : ℕ) → nat_eq k j ≡ false → (old : Standing) → office_in j old works ≡ old
      turn : any_of (is_office_turn k) works ≡ true
      quiet : (c : ℕ) → has_turn c works ≡ false

    few_turns : (end : EntryServed) (turned : EntryTurned) (before : List EntryTurned) (works : List Work) → length (turned ∷ before) ≤ most_turns → stand_of_some (end_at turned) ≡ stand_of_served end → AreTurns (turned ∷ before) works → AreFew end works
    few_turns end turned before works most stands are =
        let count = are.count in
        record {
          few = omega (arith, count, most);
          stays = are.stays;
          lines = are.lines;
          last = λ old. are.last turned before refl old ∙ (same_stand turned ∙ stands);
          others = are.others;
          turn = are.turn turned before refl;
          quiet = are.quiet;
        }

    -- the office was served
    served_go : (shown counted : Figures) (end : EntryServed) (old new : Desk R) (here there : AtOffices J) (entry next : Entry J) (deeds : List Deed) → here k ≡ Some (o, entry) → Puts here there k (left_at (is_over end) o next) → IsBegun entry
        → IsEntryServed g jg o shown counted old entry end new next deeds
        → (works : List Work) × (deeds ++ left_deeds (is_over end) o ≡ all_deeds works) × EndsBy (end_of_office end) works × Goes g jg owes old (at_offices here) works new (at_offices there) × Each IsServing works × AreFew end works
    served_go shown counted end old new here there entry next deeds at puts begun s = go s.0 s.1 s.2
      where
        go : (turns : List EntryTurned) → HasTurns g jg o old entry turns new next deeds → IsEnough turns end next
            → (works : List Work) × (deeds ++ left_deeds (is_over end) o ≡ all_deeds works) × EndsBy (end_of_office end) works × Goes g jg owes old (at_offices here) works new (at_offices there) × Each IsServing works × AreFew end works
        go [] t enough = absurd enough
        go (turned ∷ before) t enough = elim enough.1 [
          | inl ends ↦
              let all = turns_end end turned before old new here there entry next deeds at puts begun enough.0 t (same_end turned ∙ ap end_of_some ends) (same_last turned ∙ ap over_of_some ends) in
              (all.0, all.1, all.2, all.3, all.4, few_turns end turned before all.0 enough.2 (ap stand_of_some ends) all.5)
          | inr goes ↦
              let all =
              turns_end end turned before old new here there entry next deeds at puts begun enough.0 t (same_end turned ∙ (ap end_of_some goes.0 ∙ ap end_of_office (sym goes.1))) (same_last turned ∙ (ap over_of_some goes.0 ∙ ap is_over (sym goes.1))) in
              (all.0, all.1, all.2, all.3, all.4, few_turns end turned before all.0 enough.2 (ap stand_of_some goes.0 ∙ ap stand_of_served (sym goes.1)) all.5)
        ]

  -- where it goes on a line has begun
  served_begun : (o : ℕ) (shown counted : Figures) (end : EntryServed) (old new : Desk R) (entry next : Entry J) (deeds : List Deed) → IsBegun entry → IsEntryServed g jg o shown counted old entry end new next deeds → BegunIf (Some end) next
  served_begun o shown counted end old new entry next deeds begun s = go s.0 s.1 s.2
    where
      go : (turns : List EntryTurned) → HasTurns g jg o old entry turns new next deeds → IsEnough turns end next → BegunIf (Some end) next
      go [] t enough = absurd enough
      go (turned ∷ before) t enough =
          let first = turns_go (λ c. None) o 0 before old t.0 (λ j. Some (o, entry)) entry t.1 t.2 refl begun enough.0 t.4 in
          let later = begun_then turned next (begun_later g jg o turned t.0 new t.1 next t.3 first.7 t.5) in
          elim enough.1 [
            | inl ends ↦ subst (λ (it : Option EntryServed). BegunIf it next) ends later
            | inr goes ↦ subst (λ (it : EntryServed). BegunIf (Some it) next) (sym goes.1) (subst (λ (it : Option EntryServed). BegunIf it next) goes.0 later)
          ]

  module _ {S : Type 0} (name : S → ℕ) where
    -- how it stands, by what is left of it
    left_stands : (end : EntryServed) (o : ℕ) (after : Entry J) → standing_office (left_at (is_over end) o after) (Some (may_go_on end)) ≡ stand_of_served end
    left_stands end o after = go (is_over end)
      where
        go : (over : Bool) → standing_office (left_at over o after) (Some (may_go_on end)) ≡ (if over then absent else (if may_go_on end then ready else waiting))
        go true = refl
        go false = refl

    module _ (k : ℕ) (clients : Clients S W) (flags set : ℕ → Option Bool) (offices next : AtOffices J) (line : List ℕ) where
      -- connection k of the land office was served
      pub office_hosts : (shown counted : Figures) (office : Office S J) (result : EntryServed × Option (Office S J)) (from to : Option (List Deed)) (old new : Desk R) → offices k ≡ office_at name (Some office) → Puts offices next k (office_at name result.1) → Puts flags set k (Some (may_go_on result.0))
          → IsBegun office.entry → AddsSome from to (HasOfficeTurns g jg name shown counted old office result new)
          → Serves g jg owes (ServesOffice k 8 (standings_of clients offices flags line) (standings_of clients next set line)) (end_of_office result.0) from old (place_of name clients offices) to new (place_of name clients next)
      office_hosts shown counted office result from to old new at puts sets begun s =
          let t = s.2 in
          let slots : Held W = (place_of name clients offices).slots in
          let left = subst (λ (it : AtOffice J). Puts offices next k it) t.4 puts in
          let go = served_go slots (name office.socket) k shown counted result.0 old new offices next office.entry t.0 t.1 at left begun t.2 in
          let first = standings_of clients offices flags line in
          let last = standings_of clients next set line in
          let own : (next k ≡ left_at (is_over result.0) (name office.socket) t.0) = left k ∙ rw (eq-eqb k k refl) refl in
          let flag : (set k ≡ Some (may_go_on result.0)) = sets k ∙ rw (eq-eqb k k refl) refl in
          let stands : (last.offices k ≡ stand_of_served result.0) = (ap (λ (it : AtOffice J). standing_office it (set k)) own ∙ ap (λ (it : Option Bool). standing_office (left_at (is_over result.0) (name office.socket) t.0) it) flag) ∙ left_stands result.0 (name office.socket) t.0 in
          let others : ((j : ℕ) → nat_eq k j ≡ false → last.offices j ≡ first.offices j) = (λ j other. ap (λ (it : AtOffice J). standing_office it (set j)) (left j ∙ rw other refl) ∙ ap (λ (it : Option Bool). standing_office (offices j) it) (sets j ∙ rw other refl)) in
          let paced : IsPaced 8 first last go.0 = record { few = go.5.few; stand = λ c. sym (go.5.stays c (standing_at clients c)); offices = λ j. all_stand go.0 go.5 first last stands others j (nat_eq k j) refl; line = sym (go.5.lines line) } in
          (go.0, subst (λ (l : List Deed). Adds from to l) (t.3 ∙ go.1) s.1, go.2, go.3, go.4, office_passes k 8 first last go.0 paced (λ c. refl) others go.5.turn go.5.quiet)
        where
          all_stand : (works : List Work) → AreFew (place_of name clients offices).slots (name office.socket) k result.0 works → (first last : Standings) → last.offices k ≡ stand_of_served result.0
              → ((j : ℕ) → nat_eq k j ≡ false → last.offices j ≡ first.offices j) → (j : ℕ) (own : Bool) → nat_eq k j ≡ own → last.offices j ≡ office_in j (first.offices j) works
          all_stand works few first last stands others j true e =
              subst (λ (n : ℕ). last.offices n ≡ office_in n (first.offices n) works) (eqb-true k j e) (stands ∙ sym (few.last (first.offices k)))
          all_stand works few first last stands others j false e = others j e ∙ sym (few.others j e (first.offices j))

      -- an answer was written on
      pub sent_hosts : (office : Office S J) (result : EntryTurned × Option (Office S J)) (from to : Option (List Deed)) (old : Desk R) → offices k ≡ office_at name (Some office) → Puts offices next k (office_at name result.1)
          → AddsSome from to (HasSent name office result) → Hosts g jg owes IsClosing None from old (place_of name clients offices) to old (place_of name clients next)
      sent_hosts office result from to old at puts s =
          let t = s.2 in
          let turn = by_send result.0 t.0 t.1 t.3 in
          hosts-one g jg owes IsClosing None from to old old (place_of name clients offices) (place_of name clients next)
          (enters (name office.socket) k [] result.0 s.0 None) s.1 turn.0
          (office.entry, t.0, t.1, at, turn.1 t.2, t.4, turn.2, refl, subst (λ (it : AtOffice J). Puts offices next k it) t.5 puts, (λ c. refl), turn.4) turn.3
        where
          by_send : (turned : EntryTurned) (after : Entry J) (own : List Deed) → SendsSome (name office.socket) office.entry turned after own
              → (end_of_turned turned ≡ None) × (IsSending office.entry → IsEntryTurn g jg (name office.socket) old office.entry turned old after own) × IsLineSaid [] turned None × IsClosing (enters (name office.socket) k [] turned own None) × IsPieceWritten [] turned after
          by_send Wrote after own w = (refl, (λ sending. (w.0, w.1, w.2, w.3, w.4, w.5, refl, w.6, w.7)), refl, tt, tt)
          by_send Waits after own w = (refl, (λ sending. (w.0, inl sending, refl, w.1)), refl, tt, tt)
          by_send Over after own w = (refl, (λ sending. (inr (inl (w, sending)), refl)), refl, tt, tt)
          by_send Took after own w = absurd w
          by_send Added after own w = absurd w
          by_send (Answered answer) after own w = absurd w
          by_send (Lost answer) after own w = absurd w
          by_send (Checked it) after own w = absurd w
          by_send (CheckLost it) after own w = absurd w
          by_send (StatusAnswered status) after own w = absurd w
          by_send StatusLost after own w = absurd w
          by_send Stops after own w = absurd w
          by_send (JournalBegun behind) after own w = absurd w
          by_send RowsRead after own w = absurd w
          by_send (RowsRefused fault) after own w = absurd w
          by_send (RowsLost fault) after own w = absurd w
          by_send Piece after own w = absurd w
          by_send PieceLost after own w = absurd w

      -- the land office comes
      pub came_hosts : (office : Office S J) (socket : S) (from to : Option (List Deed)) (old : Desk R) → k < 4 → offices k ≡ None → office.socket ≡ socket → IsNewEntry office.entry → Puts offices next k (office_at name (Some office)) → Puts flags set k (Some true)
          → Adds from to (office_came (name socket) ∷ [])
          → Serves g jg owes (IsAtDoors 1 (standings_of clients offices flags line) (standings_of clients next set line)) None from old (place_of name clients offices) to old (place_of name clients next)
      came_hosts office socket from to old within free same is_new puts sets adds =
          serves-one g jg owes (IsAtDoors 1 (standings_of clients offices flags line) (standings_of clients next set line)) None from to old old (place_of name clients offices) (place_of name clients next) (office_comes (name socket) k) adds refl
          (office.entry, free, is_new, subst (λ (it : S). Puts offices next k (Some (name it, office.entry))) same puts, (λ c. refl), refl, within) tt
          (record { paced = record { few = omega arith; stand = λ c. refl; offices = λ j. go j (nat_eq k j) refl; line = refl }; quiet = λ c. refl })
        where
          go : (j : ℕ) (own : Bool) → nat_eq k j ≡ own → standing_office (next j) (set j) ≡ (if nat_eq k j then ready else standing_office (offices j) (flags j))
          go j true e = rw (puts j, sets j, e) refl
          go j false e = rw (puts j, sets j, e) refl

      -- it is let go
      pub left_hosts : (office : Office S J) (from to : Option (List Deed)) (old : Desk R) → offices k ≡ office_at name (Some office) → Puts offices next k None → Adds from to (left (name office.socket) ∷ [])
          → Hosts g jg owes IsClosing None from old (place_of name clients offices) to old (place_of name clients next)
      left_hosts office from to old at puts adds =
          hosts-one g jg owes IsClosing None from to old old (place_of name clients offices) (place_of name clients next) (office_leaves (name office.socket) k false) adds refl
          (office.entry, at, puts, (λ c. refl), refl, (λ clash. absurd (let same : false ≡ true = clash in cc))) refl

      -- it is dropped, since its answer is overdue
      pub dropped_office : (office : Office S J) (from to : Option (List Deed)) (old : Desk R) → offices k ≡ office_at name (Some office) → Puts offices next k None → IsSending office.entry → Adds from to (left (name office.socket) ∷ [])
          → Serves g jg owes (IsAtDoors 1 (standings_of clients offices flags line) (standings_of clients next flags line)) None from old (place_of name clients offices) to old (place_of name clients next)
      dropped_office office from to old at puts sending adds =
          serves-one g jg owes (IsAtDoors 1 (standings_of clients offices flags line) (standings_of clients next flags line)) None from to old old (place_of name clients offices) (place_of name clients next) (office_leaves (name office.socket) k true) adds refl
          (office.entry, at, puts, (λ c. refl), refl, (λ same. sending)) refl
          (record { paced = record { few = omega arith; stand = λ c. refl; offices = λ j. go j (nat_eq k j) refl; line = refl }; quiet = λ c. refl })
        where
          go : (j : ℕ) (own : Bool) → nat_eq k j ≡ own → standing_office (next j) (flags j) ≡ (if nat_eq k j then absent else standing_office (offices j) (flags j))
          go j true e = rw (puts j, e) refl
          go j false e = rw (puts j, e) refl

    entry_begun : (o : ℕ) (after : Entry J) (office : Office S J) → IsBegun after → ◌≡◌ {A = AtOffice J} (Some (name office.socket, office.entry)) (Some (o, after)) → IsBegun office.entry
    entry_begun o after office begun at = subst IsBegun (sym (ap (λ (p : ℕ × Entry J). p.1) (one_some {X = ℕ × Entry J} (name office.socket, office.entry) (o, after) at))) begun

    begun_at : (end : EntryServed) (o : ℕ) (after : Entry J) (it : Option (Office S J)) → BegunIf (Some end) after → office_at name it ≡ left_at (is_over end) o after → BegunUnless (end_of_office end) it
    begun_at served.Goes o after None begun at = tt
    begun_at served.Goes o after (Some office) begun at = entry_begun o after office begun at
    begun_at served.Waits o after None begun at = tt
    begun_at served.Waits o after (Some office) begun at = entry_begun o after office begun at
    begun_at served.Over o after None begun at = tt
    begun_at served.Over o after (Some office) begun at = absurd (none_some {X = ℕ × Entry J} (name office.socket, office.entry) (sym at))
    begun_at served.Stops o after it begun at = tt
    begun_at served.StoreRefused o after it begun at = tt

    -- and of what is left of it a line has begun
    pub office_begun : (shown counted : Figures) (office : Office S J) (result : EntryServed × Option (Office S J)) (old new : Desk R) (deeds : List Deed) → IsBegun office.entry → HasOfficeTurns g jg name shown counted old office result new deeds
        → BegunUnless (end_of_office result.0) result.1
    office_begun shown counted office result old new deeds begun t =
        begun_at result.0 (name office.socket) t.0 result.1 (served_begun (name office.socket) shown counted result.0 old new office.entry t.0 t.1 begun t.2) t.4

    -- the office comes, and the network can't tell of it
    pub unwatched_hosts : (t : ℕ) (from mid to : Option (List Deed)) (old : Desk R) (here : Place J W) (stand : Standings) → Adds from mid (office_came t ∷ []) → Adds mid to (left t ∷ []) → Serves g jg owes (IsAtDoors 1 stand stand) None from old here to old here
    unwatched_hosts t from mid to old here stand comes goes =
        serves-one g jg owes (IsAtDoors 1 stand stand) None from to old old here here (aside (office_came t ∷ left t ∷ []) None) (Adds-trans from mid to (office_came t ∷ []) (left t ∷ []) comes goes) refl
        (tt, refl, (λ c. refl), inr (inr (t, refl)), λ k. refl) tt (record { paced = record { few = omega arith; stand = λ c. refl; offices = λ k. refl; line = refl }; quiet = λ c. refl })

-- the connection that was taken out is the one that was here
pub was_begun : {S J : Type 0} (office : Office S J) (k : ℕ) (offices : Offices S J) → Some office ≡ seat_at offices k → HaveBegun offices → IsBegun office.entry
was_begun {S} {J} office k offices same begun = subst (λ (o : Option (Office S J)). OfficeHasBegun o) (sym {a = Some office} same) (begun.each k)

pub was_sending : {S J : Type 0} (office : Office S J) (one : Option (Office S J)) → Some office ≡ one → IsOfficeSending one → IsSending office.entry
was_sending {S} {J} office one same sending = subst (λ (o : Option (Office S J)). IsOfficeSending o) (sym {a = Some office} same) sending

pub none_sending : {S J : Type 0} (one : Option (Office S J)) → None ≡ one → IsOfficeSending one → ⊥
none_sending {S} {J} one same sending = subst (λ (o : Option (Office S J)). IsOfficeSending o) (sym {a = None} same) sending

-- another one was put in its place
pub put_seat : {S J : Type 0} (k : ℕ) (was one : Option (Office S J)) (old mid new : Offices S J) → Seats old mid k was → Seats mid new k one → Seats old new k one
put_seat k was one old mid new out back j = back j ∙ go (nat_eq k j) refl
  where
    go : (same : Bool) → nat_eq k j ≡ same → (if same then one else seat_at mid j) ≡ (if same then one else seat_at old j)
    go true e = refl
    go false e = out j ∙ rw e refl

pub seats_put : {S J : Type 0} (name : S → ℕ) (k : ℕ) (one : Option (Office S J)) (old new : Offices S J) → Seats old new k one → Puts (offices_at name old) (offices_at name new) k (office_at name one)
seats_put name k one old new seats j = ap (office_at name) (seats j) ∙ go (nat_eq k j)
  where
    go : (same : Bool) → office_at name (if same then one else seat_at old j) ≡ (if same then office_at name one else office_at name (seat_at old j))
    go true = refl
    go false = refl

pub seat_here : {S J : Type 0} (name : S → ℕ) (k : ℕ) (office : Office S J) (offices : Offices S J) → Some office ≡ seat_at offices k → offices_at name offices k ≡ office_at name (Some office)
seat_here name k office offices same = ap (office_at name) (sym {a = Some office} same)

-- a place that was free is free
pub seat_free : {S J : Type 0} (name : S → ℕ) (k : ℕ) (offices next : Offices S J) → None ≡ seat_at offices k → Seats offices next k None → Same (offices_at name offices) (offices_at name next)
seat_free name k offices next free seats = put_same (offices_at name offices) (offices_at name next) k None (ap (office_at name) (sym {a = None} free)) (seats_put name k None offices next seats)

-- and so has one of each, where this one is served
pub all_begun : {S J : Type 0} (end : Option Stopped) (k : ℕ) (one : Option (Office S J)) (offices next : Offices S J) → HaveBegun offices → Seats offices next k one → BegunUnless end one → HaveBegunUnless end next
all_begun {S} {J} None k one offices next begun seats has = record { each = λ j. subst (λ (o : Option (Office S J)). OfficeHasBegun o) (sym (seats j)) (go j (nat_eq k j)) }
  where
    go : (j : ℕ) (same : Bool) → OfficeHasBegun (if same then one else seat_at offices j)
    go j true = has
    go j false = begun.each j
all_begun (Some stopped) k one offices next begun seats has = tt

-- it is not open, and so has no turn
pub none_served : {S J W : Type 0} (k : ℕ) (clients : Clients S W) (flags set : ℕ → Option Bool) (offices next : AtOffices J) (line : List ℕ) (is_ready : Bool) → offices k ≡ None → Same offices next → Puts flags set k (Some is_ready)
    → ServesOffice k 8 (standings_of clients offices flags line) (standings_of clients next set line) (aside [] None ∷ [])
none_served {S} {J} k clients flags set offices next line is_ready free same sets = record {
  passes = record { paced = record { few = omega arith; stand = λ c. refl; offices = stands; line = refl }; kept = λ c is. inr is; kept_office = λ j is. inr (stands j ∙ is) };
  quiet = λ c. refl;
  turn = λ is. (let clash : absent ≡ ready = sym (ap (λ (it : AtOffice J). standing_office it (flags k)) free) ∙ is in cc);
}
  where
    go : (j : ℕ) (own : Bool) → nat_eq k j ≡ own → standing_office (next j) (set j) ≡ standing_office (offices j) (flags j)
    go j true e =
        let none : offices j ≡ None = ap offices (sym (eqb-true k j e)) ∙ free in
        ap (λ (it : AtOffice J). standing_office it (set j)) (same j ∙ none) ∙ sym (ap (λ (it : AtOffice J). standing_office it (flags j)) none)
    go j false e = ap (λ (it : AtOffice J). standing_office it (set j)) (same j) ∙ ap (λ (it : Option Bool). standing_office (offices j) it) (sets j ∙ rw e refl)

    stands : (j : ℕ) → standing_office (next j) (set j) ≡ standing_office (offices j) (flags j)
    stands j = go j (nat_eq k j) refl

pub same_none : {S J : Type 0} (name : S → ℕ) (k : ℕ) (offices : Offices S J) → None ≡ seat_at offices k → offices_at name offices k ≡ None
same_none name k offices free = ap (office_at name) (sym {a = None} free)

-- one more was let go
pub parted_more : {S J : Type 0} (k : ℕ) (offices next : Offices S J) → Seats offices next k None → ((j : ℕ) → j < k → seat_at offices j ≡ None) → (j : ℕ) → j < k + 1 → seat_at next j ≡ None
parted_more {S} k offices next seats before j within = seats j ∙ go (nat_eq k j) refl
  where
    below : (k ≡ j → ⊥) → j < k
    below differ = omega (arith, within, differ)

    go : (same : Bool) → nat_eq k j ≡ same → (if same then None else seat_at offices j) ≡ None
    go true e = refl
    go false e = before j (below (λ same. let yes = eq-eqb k j same in let clash : true ≡ false = sym yes ∙ e in cc))

-- there is no place above the last
pub all_parted : {S J : Type 0} (offices : Offices S J) → ((j : ℕ) → j < 4 → seat_at offices j ≡ None) → (j : ℕ) → seat_at offices j ≡ None
all_parted {S} {J} offices below j = elim (cases_lt j 4) [
  | inl within ↦ below j within
  | inr past ↦ let room = offices.room in ap (λ (o : Option (Option (Office S J))). seat_in o) (slice_get_past offices.seats.items j (omega (arith, past, room)))
]
