-- What the office is told of a journal is the lines of its commands.
use Rattle.std.proofs.Common.{◌≡◌, ◌⊎◌, ℕ, zero, suc, ◌+◌, ◌≤◌, ◌==◌, nat_eq, Bool, true, false, List, [], ◌∷◌, ◌++◌, length, take, drop, None, Some, Result, Ok, Err, refl, sym, ap, subst, ◌∙◌, inl, inr, append-nil, append_assoc, length-take, length-drop, if◌then◌else◌, arith}
use Rattle.std.proofs.lemmas.Bool.{eqb-true, eq-eqb}
use Rattle.std.proofs.lemmas.Bool.Decides.{nat_tests}
use Rattle.cad_versions.specs.declared.command.Command.{Command}
use Rattle.cad_versions.specs.declared.fault.RegisterFault.{RegisterFault}
use Rattle.cad_versions.specs.declared.fault.RegisterFault.TheVariants.{Memory}
use Rattle.cad_versions.specs.Refusals.{AreAccepted}
use Rattle.cad_versions.specs.Journals.{ReadingsStay, ReadingsAreWithin}
use Rattle.cad_stream.specs.declared.responder.Responder.{Ghosts}
use Rattle.cad_stream.specs.declared.journal_responder.JournalResponder.{Ghosts as JournalGhosts}
use Rattle.cad_desk.specs.declared.desk.Desk.{Desk}
use Rattle.cad_desk.specs.declared.event.Event.{Event}
use Rattle.cad_desk.specs.declared.event.Event.TheVariants.{Open, Bytes, Close, Office}
use Rattle.cad_desk.specs.declared.event.Reply.{Reply}
use Rattle.cad_desk.specs.declared.fault.DeskFault.{DeskFault}
use Rattle.cad_desk.specs.Desks.{responder_of}
use Rattle.cad_desk.specs.Events.{commands_after}
use Rattle.cad_network.specs.Deeds.{Deed}
use Rattle.cad_office.specs.declared.journal.JournalLines.{JournalLines}
use Rattle.cad_office.specs.declared.print.Answer.TheVariants.{Refused}
use Rattle.cad_office.specs.Answers.{printed}
use Rattle.cad_office.specs.JournalLines.{line_of, lines_of, end_line, commands_left, WritesPiece}
use Rattle.cad_office_socket.specs.declared.entry.Entry.{Entry}
use Rattle.cad_office_socket.specs.declared.journal_state.JournalRequest.{JournalRequest}
use Rattle.cad_office_socket.specs.declared.journal_state.JournalState.{JournalState}
use Rattle.cad_office_socket.specs.declared.journal_state.JournalState.TheVariants.{Idle, Rejected, Reading, Writing}
use Rattle.cad_office_socket.specs.declared.turned.EntryTurned.{EntryTurned}
use Rattle.cad_office_socket.specs.declared.turned.EntryTurned.TheVariants.{Wrote, Took, Added, Answered, Lost, Checked, CheckLost, StatusAnswered, StatusLost, JournalBegun, RowsRead, RowsRefused, RowsLost, Piece, PieceLost, Stops, Waits, Over}
use Rattle.cad_office_socket.specs.Journals.{Begins, IsRead, IsUnread, IsPiece, rest_of}
use Rattle.cad_office_socket.specs.Turns.{HasBegun, IsTaken, IsEntryTurn}
use Rattle.cad_event_loop.specs.Works.{Place, event, question, rows, Said, Work, wakes, opens, acts, waits, ends, office_comes, enters, office_leaves, aside, IsPieceWritten, is_last, Works, Goes, MayGoOn}
use Rattle.cad_event_loop.specs.Laws.{commands_by, commands_in}
use Rattle.cad_event_loop.specs.Journals.{journal_text_by, journal_text_in, takes_by, takes_in, IsBeginningOf, journal_text, IsJournalWritten, JournalsAreWritten}
use Rattle.cad_event_loop.proofs.LifeLemmas.{none_some}
use Rattle.cad_event_loop.proofs.ApartLemmas.{differs}
use Rattle.cad_event_loop.proofs.SocketLemmas.{split}
use Rattle.cad_event_loop.proofs.BegunLemmas.{same_entry, begun_in}
use Rattle.cad_event_loop.specs.lemmas.CleanLemmas.{goes_clean}
use Rattle.cad_event_loop.proofs.StandLemmas.{goes_stands}

-- ---- commands and lines

lines_of-append : (xs ys : List Command) → lines_of (xs ++ ys) ≡ lines_of xs ++ lines_of ys
lines_of-append [] ys = refl
lines_of-append (c ∷ xs) ys = ap (λ (l : List ℕ). line_of c ++ l) (lines_of-append xs ys) ∙ sym (append_assoc (line_of c) (lines_of xs) (lines_of ys))

-- what comes later changes none of the first
take_first : (n : ℕ) (xs ys : List Command) → n ≤ length xs → take n (xs ++ ys) ≡ take n xs
take_first zero xs ys within = refl
take_first (suc n) [] ys within = absurd (omega (arith, within))
take_first (suc n) (c ∷ xs) ys within = ap (λ (l : List Command). c ∷ l) (take_first n xs ys (omega (arith, within)))

all_taken : (xs : List Command) → take (length xs) xs ≡ xs
all_taken [] = refl
all_taken (c ∷ xs) = ap (λ (l : List Command). c ∷ l) (all_taken xs)

-- the last of these revisions
last_revision : (behind newest : ℕ) (commands : List Command) → behind ≤ newest → newest ≤ length commands → behind + length (drop behind (take newest commands)) ≡ newest
last_revision behind newest commands after within =
    let taken = length-take newest commands in
    let left = length-drop behind (take newest commands) in
    omega (arith, taken, left, after, within)

-- an event adds commands behind those before
more_after : (commands : List Command) (e : Event) (answer : Result Reply DeskFault) → (more : List Command) × (commands_after commands e answer ≡ commands ++ more)
more_after commands (Office command) (Ok reply) = (command ∷ [], refl)
more_after commands (Office command) (Err fault) = ([], sym (append-nil commands))
more_after commands (Open c) answer = ([], sym (append-nil commands))
more_after commands (Bytes c piece) answer = ([], sym (append-nil commands))
more_after commands (Close c) answer = ([], sym (append-nil commands))

more_by : (commands : List Command) (said : Said) → (more : List Command) × (commands_by commands said ≡ commands ++ more)
more_by commands None = ([], sym (append-nil commands))
more_by commands (Some (event e answer)) = more_after commands e answer
more_by commands (Some (question command answer)) = ([], sym (append-nil commands))
more_by commands (Some (rows answer)) = ([], sym (append-nil commands))

-- ---- what was told of a text

told_nothing : (whole : List ℕ) → IsBeginningOf whole [] false
told_nothing whole = (whole, refl, λ e. (let clash : false ≡ true = e in cc))

told_all : (whole later : List ℕ) (takes : Bool) → later ≡ [] → IsBeginningOf whole (whole ++ later) takes
told_all whole later takes none = ([], sym (append-nil (whole ++ later) ∙ (ap (λ (l : List ℕ). whole ++ l) none ∙ append-nil whole)), λ e. refl)

told_more : (text whole later : List ℕ) (takes : Bool) → IsBeginningOf whole later takes → IsBeginningOf (text ++ whole) (text ++ later) takes
told_more text whole later takes is = (is.0, ap (λ (l : List ℕ). text ++ l) is.1 ∙ sym (append_assoc text later is.0), is.2)

module _ {R J W : Type 0} (g : Ghosts R) (jg : JournalGhosts R J) (owes : W → List ℕ) (are_accepted : (responder : R) (commands : List Command) → g.stands_for responder commands → AreAccepted [] commands)
    (are_within : ReadingsAreWithin jg.has_read jg.behind_of jg.newest_of) (stay : ReadingsStay jg.has_read) where
  -- of the commands between two revisions, with these commands in force
  abbrev SaysBetween : List Command → ℕ → ℕ → List ℕ → Bool → Type 0
  SaysBetween commands behind newest told takes =
      IsBeginningOf (lines_of (drop behind (take newest commands)) ++ end_line newest) told takes
      ⊎ ((fault : RegisterFault) × ((fault ≡ Memory) ⊎ ((later : List Command) × jg.fails_to_read (commands ++ later) fault)) × IsBeginningOf (printed (Refused fault)) told takes)

  -- of a reading
  abbrev SaysRead : List Command → J → List ℕ → Bool → Type 0
  SaysRead commands reading told takes = SaysBetween commands (jg.behind_of reading) (jg.newest_of reading) told takes

  abbrev Says : List Command → JournalState J → List ℕ → Bool → Type 0
  Says commands Idle told takes = told ≡ []
  Says commands (Rejected fault) told takes = IsBeginningOf (printed (Refused fault)) told takes
  Says commands (Reading asked) told takes = jg.has_read commands asked.reading → asked.behind ≡ jg.behind_of asked.reading → SaysRead commands asked.reading told takes
  Says commands (Writing lines) told takes = IsBeginningOf (lines_of (commands_left lines) ++ end_line lines.newest) told takes

  says_nothing : (commands : List Command) (telling : JournalState J) → Says commands telling [] false
  says_nothing commands Idle = refl
  says_nothing commands (Rejected fault) = told_nothing (printed (Refused fault))
  says_nothing commands (Reading asked) = λ has same. inl (told_nothing (lines_of (drop (jg.behind_of asked.reading) (take (jg.newest_of asked.reading) commands)) ++ end_line (jg.newest_of asked.reading)))
  says_nothing commands (Writing lines) = told_nothing (lines_of (commands_left lines) ++ end_line lines.newest)

  -- commands that came later change nothing of it
  says_before : (commands more : List Command) (telling : JournalState J) (told : List ℕ) (takes : Bool) → AreAccepted [] (commands ++ more) → Says (commands ++ more) telling told takes → Says commands telling told takes
  says_before commands more Idle told takes accepted says = says
  says_before commands more (Rejected fault) told takes accepted says = says
  says_before commands more (Writing lines) told takes accepted says = says
  says_before commands more (Reading asked) told takes accepted says = λ has same.
      let reading = asked.reading in
      let within = are_within commands reading has in
      let first = take_first (jg.newest_of reading) commands more within.1 in
      elim (says (stay commands more reading accepted has) same) [
        | inl all ↦ inl (subst (λ (cs : List Command). IsBeginningOf (lines_of (drop (jg.behind_of reading) cs) ++ end_line (jg.newest_of reading)) told takes) first all)
        | inr none ↦ inr (none.0, earlier commands more none.0 none.1, none.2)
      ]
    where
      earlier : (commands more : List Command) (fault : RegisterFault) → (fault ≡ Memory) ⊎ ((later : List Command) × jg.fails_to_read ((commands ++ more) ++ later) fault) → (fault ≡ Memory) ⊎ ((later : List Command) × jg.fails_to_read (commands ++ later) fault)
      earlier commands more fault (inl memory) = inl memory
      earlier commands more fault (inr unread) = inr (more ++ unread.0, subst (λ (cs : List Command). jg.fails_to_read cs fault) (append_assoc commands more unread.0) unread.1)

  module _ (commands : List Command) (old mid : Desk R) (counts : g.counts (responder_of mid)) (stands : g.stands_for (responder_of old) commands) (told : List ℕ) (takes : Bool) where
    -- rows were read
    says_read : (asked : JournalRequest J) (next : JournalState J) → IsRead g jg old asked mid next → Says commands next told takes → Says commands (Reading asked) told takes
    says_read asked Idle read says = absurd read.2
    says_read asked (Rejected fault) read says = λ has same.
        let after = read.1.read.held counts commands stands has in
        inr (fault, inl (read.2.cause commands after), says)
    says_read asked (Reading later) read says = λ has same.
        let after = read.1.read.held counts commands stands has in
        let on = read.1.read.on in
        let there = says after (read.0 ∙ (same ∙ sym on.behind_is)) in
        subst (λ (n : ℕ). SaysBetween commands (jg.behind_of asked.reading) n told takes) on.newest_is
        (subst (λ (b : ℕ). SaysBetween commands b (jg.newest_of later.reading) told takes) on.behind_is there)
    says_read asked (Writing lines) read says = λ has same.
        let after = read.1.read.held counts commands stands has in
        let on = read.1.read.on in
        let journal = read.2.0 in
        let given = read.2.1.given commands after in
        let within = are_within commands read.0 after in
        let items : commands_left lines ≡ drop (jg.behind_of read.0) (take (jg.newest_of read.0) commands) = read.2.2 ∙ given in
        let count : length journal.items ≡ length (drop (jg.behind_of read.0) (take (jg.newest_of read.0) commands)) = ap (λ (l : List Command). length l) given in
        let last = last_revision (jg.behind_of read.0) (jg.newest_of read.0) commands within.0 within.1 in
        let newest : lines.newest ≡ jg.newest_of read.0 = read.2.3 ∙ (rw (same, count, sym on.behind_is) last) in
        inl (rw (sym on.behind_is, sym on.newest_is, sym items, sym newest) says)

    -- rows were not read
    says_unread : (asked : JournalRequest J) (fault : RegisterFault) → IsUnread g jg old asked fault mid → told ≡ [] → Says commands (Reading asked) (printed (Refused fault) ++ told) takes
    says_unread asked fault unread none = λ has same.
        inr (fault, inr ([], subst (λ (cs : List Command). jg.fails_to_read cs fault) (sym (append-nil commands)) (unread.1.read.cause counts commands stands)), told_all (printed (Refused fault)) told takes none)

    -- a text was told
    says_piece : (text : List ℕ) (lines after : JournalLines) → WritesPiece text lines after → Says commands (rest_of after) told takes → Says commands (Writing lines) (text ++ told) takes
    says_piece text lines after piece says = by_left (commands_left after) refl
      where
        some : (c : Command) (cs : List Command) → (length (c ∷ cs) == 0) ≡ false
        some c cs = grind (arith, nat_tests)

        joined : (rest : List Command) → commands_left after ≡ rest → lines_of (commands_left lines) ≡ lines_of piece.front ++ lines_of rest
        joined rest is = ap (λ (cs : List Command). lines_of cs) piece.left ∙ (lines_of-append piece.front (commands_left after) ∙ ap (λ (cs : List Command). lines_of piece.front ++ lines_of cs) is)

        by_left : (rest : List Command) → commands_left after ≡ rest → Says commands (Writing lines) (text ++ told) takes
        by_left [] is =
            let none : told ≡ [] = subst (λ (cs : List Command). Says commands (if length cs == 0 then Idle else Writing after) told takes) is says in
            let text_is : text ≡ lines_of (commands_left lines) ++ end_line lines.newest = piece.lines ∙ (rw is (ap (λ (l : List ℕ). l ++ end_line lines.newest) (sym (joined [] is ∙ append-nil (lines_of piece.front))))) in
            subst (λ (l : List ℕ). IsBeginningOf (lines_of (commands_left lines) ++ end_line lines.newest) (l ++ told) takes) (sym text_is) (told_all (lines_of (commands_left lines) ++ end_line lines.newest) told takes none)
        by_left (c ∷ cs) is =
            let more : Says commands (Writing after) told takes = subst (λ (b : Bool). Says commands (if b then Idle else Writing after) told takes) (some c cs) (subst (λ (rest : List Command). Says commands (if length rest == 0 then Idle else Writing after) told takes) is says) in
            let text_is : text ≡ lines_of piece.front = piece.lines ∙ (rw is (append-nil (lines_of piece.front))) in
            let whole : lines_of (commands_left lines) ++ end_line lines.newest ≡ text ++ (lines_of (commands_left after) ++ end_line after.newest) =
            ap (λ (l : List ℕ). l ++ end_line lines.newest) (joined (commands_left after) refl) ∙ (append_assoc (lines_of piece.front) (lines_of (commands_left after)) (end_line lines.newest) ∙ rw (text_is, piece.same) refl) in
            subst (λ (l : List ℕ). IsBeginningOf l (text ++ told) takes) (sym whole) (told_more text (lines_of (commands_left after) ++ end_line after.newest) told takes more)

    says_told : (text : List ℕ) (telling next : JournalState J) → IsPiece telling text next → Says commands next told takes → Says commands telling (text ++ told) takes
    says_told text Idle next is says = absurd is
    says_told text (Rejected fault) next is says =
        let none : told ≡ [] = subst (λ (it : JournalState J). Says commands it told takes) is.1 says in
        subst (λ (l : List ℕ). IsBeginningOf (printed (Refused fault)) (l ++ told) takes) (sym is.0) (told_all (printed (Refused fault)) told takes none)
    says_told text (Reading asked) next is says = absurd is
    says_told text (Writing lines) next is says = says_piece text lines is.0 is.1 (subst (λ (it : JournalState J). Says commands it told takes) is.2 says)

    -- a turn of the office
    quiet_says : (telling : JournalState J) (takes : Bool) → telling ≡ Idle → Says commands telling [] takes
    quiet_says telling takes none = subst (λ (it : JournalState J). Says commands it [] takes) (sym none) refl

    by_turn : (o : ℕ) (text : List ℕ) (turned : EntryTurned) (entry next : Entry J) (own : List Deed) → IsEntryTurn g jg o old entry turned mid next own → IsPieceWritten text turned next → (is_last turned ≡ false → Says commands next.journal told takes)
        → Says commands entry.journal (journal_text_by text turned told) (takes_by turned takes)
    by_turn o text Wrote entry next own t is says = subst (λ (it : JournalState J). Says commands it told takes) t.8 (says refl)
    by_turn o text Waits entry next own t is says = subst (λ (it : Entry J). Says commands it.journal told takes) t.3 (says refl)
    by_turn o text RowsRead entry next own t is says = subst (λ (it : JournalState J). Says commands it told takes) (sym t.2.1) (says_read t.2.0 next.journal t.2.2 (says refl))
    by_turn o text (RowsRefused fault) entry next own t is says =
        let none : told ≡ [] = subst (λ (it : JournalState J). Says commands it told takes) t.2.5 (says refl) in
        subst (λ (it : JournalState J). Says commands it (printed (Refused fault) ++ told) takes) (sym t.2.1) (says_unread t.2.0 fault t.2.2 none)
    by_turn o text (RowsLost fault) entry next own t is says = says_nothing commands entry.journal
    by_turn o text Piece entry next own t is says = says_told text entry.journal next.journal (subst (λ (l : List ℕ). IsPiece entry.journal l next.journal) is t.2.0) (says refl)
    by_turn o text PieceLost entry next own t is says = says_nothing commands entry.journal
    by_turn o text Over entry next own t is says = says_nothing commands entry.journal
    by_turn o text Took entry next own t is says = quiet_says entry.journal true t.3.3
    by_turn o text Added entry next own t is says = quiet_says entry.journal true t.2
    by_turn o text (Answered answer) entry next own t is says = quiet_says entry.journal true t.2
    by_turn o text (Lost answer) entry next own t is says = quiet_says entry.journal true t.2
    by_turn o text (Checked report) entry next own t is says = quiet_says entry.journal true t.2
    by_turn o text (CheckLost report) entry next own t is says = quiet_says entry.journal true t.2
    by_turn o text (StatusAnswered status) entry next own t is says = quiet_says entry.journal true t.2
    by_turn o text StatusLost entry next own t is says = quiet_says entry.journal true t.2
    by_turn o text (JournalBegun behind) entry next own t is says = quiet_says entry.journal true t.2
    by_turn o text Stops entry next own t is says = quiet_says entry.journal true t.2

  -- a turn of connection k, and what is said after it
  module _ (k o : ℕ) (text : List ℕ) (turned : EntryTurned) (deeds : List Deed) (said : Said) (later : List Work) (old mid : Desk R) (here between : Place J W) (w : Works g jg owes old here (enters o k text turned deeds said) mid between)
      (commands : List Command) (counts : g.counts (responder_of mid)) (stands : g.stands_for (responder_of old) commands) (there : g.stands_for (responder_of mid) (commands_by commands said)) where
    -- if the connection is there after it
    after_turn : ((entry : Entry J) → between.offices k ≡ Some (o, entry) → Says (commands_by commands said) entry.journal (journal_text_in k later) (takes_in k later)) → is_last turned ≡ false → Says commands w.1.journal (journal_text_in k later) (takes_in k later)
    after_turn next goes =
        let at : between.offices k ≡ Some (o, w.1) = w.8 k ∙ rw (eq-eqb k k refl, goes) refl in
        let more = more_by commands said in
        let accepted : AreAccepted [] (commands ++ more.0) = subst (λ (cs : List Command). AreAccepted [] cs) more.1 (are_accepted (responder_of mid) (commands_by commands said) there) in
        says_before commands more.0 w.1.journal (journal_text_in k later) (takes_in k later) accepted
        (subst (λ (cs : List Command). Says cs w.1.journal (journal_text_in k later) (takes_in k later)) more.1 (next w.1 at))

    own_turn : ((entry : Entry J) → between.offices k ≡ Some (o, entry) → Says (commands_by commands said) entry.journal (journal_text_in k later) (takes_in k later))
        → Says commands w.0.journal (journal_text_by text turned (journal_text_in k later)) (takes_by turned (takes_in k later))
    own_turn next = by_turn commands old mid counts stands (journal_text_in k later) (takes_in k later) o text turned w.0 w.1 w.2 w.4 w.10 (after_turn next)

  says_in : (k o : ℕ) (works : List Work) (old new : Desk R) (here next : Place J W) (goes : Goes g jg owes old here works new next) → MayGoOn g jg owes works old new here next goes
      → (commands : List Command) (entry : Entry J) → here.offices k ≡ Some (o, entry) → g.counts (responder_of new) → g.stands_for (responder_of old) commands → Says commands entry.journal (journal_text_in k works) (takes_in k works)
  says_in k o [] old new here next goes may commands entry at counts stands = says_nothing commands entry.journal
  says_in k o (wakes places ∷ later) old new here next goes may commands entry at counts stands =
      let after = goes_clean g jg owes later goes.0 new goes.1 next goes.3 counts in
      let one = goes_stands g jg owes commands (wakes places ∷ []) old goes.0 here goes.1 (goes.0, goes.1, goes.2, (refl, refl)) (may.0, tt) after stands in
      says_in k o later goes.0 new goes.1 next goes.3 may.1 commands entry (goes.2.2 k ∙ at) counts one
  says_in k o (opens s c ∷ later) old new here next goes may commands entry at counts stands =
      let after = goes_clean g jg owes later goes.0 new goes.1 next goes.3 counts in
      let one = goes_stands g jg owes commands (opens s c ∷ []) old goes.0 here goes.1 (goes.0, goes.1, goes.2, (refl, refl)) (may.0, tt) after stands in
      says_in k o later goes.0 new goes.1 next goes.3 may.1 commands entry (goes.2.5 k ∙ at) counts one
  says_in k o (acts s c act owing ∷ later) old new here next goes may commands entry at counts stands =
      let after = goes_clean g jg owes later goes.0 new goes.1 next goes.3 counts in
      let one = goes_stands g jg owes commands (acts s c act owing ∷ []) old goes.0 here goes.1 (goes.0, goes.1, goes.2, (refl, refl)) (may.0, tt) after stands in
      says_in k o later goes.0 new goes.1 next goes.3 may.1 commands entry (goes.2.5 k ∙ at) counts one
  says_in k o (waits s c ∷ later) old new here next goes may commands entry at counts stands =
      let after = goes_clean g jg owes later goes.0 new goes.1 next goes.3 counts in
      let one = goes_stands g jg owes commands (waits s c ∷ []) old goes.0 here goes.1 (goes.0, goes.1, goes.2, (refl, refl)) (may.0, tt) after stands in
      says_in k o later goes.0 new goes.1 next goes.3 may.1 commands entry (goes.2.5 k ∙ at) counts one
  says_in k o (ends s c cause deeds said ∷ later) old new here next goes may commands entry at counts stands =
      let after = goes_clean g jg owes later goes.0 new goes.1 next goes.3 counts in
      let one = goes_stands g jg owes commands (ends s c cause deeds said ∷ []) old goes.0 here goes.1 (goes.0, goes.1, goes.2, (refl, refl)) (may.0, tt) after stands in
      says_in k o later goes.0 new goes.1 next goes.3 may.1 commands entry (goes.2.6 k ∙ at) counts one
  says_in k o (office_comes p j ∷ later) old new here next goes may commands entry at counts stands =
      let after = goes_clean g jg owes later goes.0 new goes.1 next goes.3 counts in
      let one = goes_stands g jg owes commands (office_comes p j ∷ []) old goes.0 here goes.1 (goes.0, goes.1, goes.2, (refl, refl)) (may.0, tt) after stands in
      let other : nat_eq j k ≡ false = differs j k (λ same. none_some {X = ℕ × Entry J} (o, entry) (sym goes.2.1 ∙ (ap here.offices same ∙ at))) in
      says_in k o later goes.0 new goes.1 next goes.3 may.1 commands entry (goes.2.3 k ∙ rw other at) counts one
  says_in k o (office_leaves p j overdue ∷ later) old new here next goes may commands entry at counts stands =
      let after = goes_clean g jg owes later goes.0 new goes.1 next goes.3 counts in
      let one = goes_stands g jg owes commands (office_leaves p j overdue ∷ []) old goes.0 here goes.1 (goes.0, goes.1, goes.2, (refl, refl)) (may.0, tt) after stands in
      by_number (λ there. says_in k o later goes.0 new goes.1 next goes.3 may.1 commands entry there counts one) (nat_eq j k) refl
    where
      by_number : (goes.1.offices k ≡ Some (o, entry) → Says commands entry.journal (journal_text_in k later) (takes_in k later)) → (own : Bool) → nat_eq j k ≡ own
          → Says commands entry.journal (journal_text_in k (office_leaves p j overdue ∷ later)) (takes_in k (office_leaves p j overdue ∷ later))
      by_number more true e = rw e (says_nothing commands entry.journal)
      by_number more false e = rw e (more (goes.2.2 k ∙ rw e at))
  says_in k o (aside deeds said ∷ later) old new here next goes may commands entry at counts stands =
      let after = goes_clean g jg owes later goes.0 new goes.1 next goes.3 counts in
      let one = goes_stands g jg owes commands (aside deeds said ∷ []) old goes.0 here goes.1 (goes.0, goes.1, goes.2, (refl, refl)) (may.0, tt) after stands in
      says_in k o later goes.0 new goes.1 next goes.3 may.1 commands entry (goes.2.4 k ∙ at) counts one
  says_in k o (enters p j text turned deeds said ∷ later) old new here next goes may commands entry at counts stands =
      let after = goes_clean g jg owes later goes.0 new goes.1 next goes.3 counts in
      let one = goes_stands g jg owes commands (enters p j text turned deeds said ∷ []) old goes.0 here goes.1 (goes.0, goes.1, goes.2, (refl, refl)) (may.0, tt) after stands in
      by_number after one (λ q it there. says_in k q later goes.0 new goes.1 next goes.3 may.1 (commands_by commands said) it there counts one) (nat_eq j k) refl
    where
      by_number : g.counts (responder_of goes.0) → g.stands_for (responder_of goes.0) (commands_by commands said)
          → ((q : ℕ) (it : Entry J) → goes.1.offices k ≡ Some (q, it) → Says (commands_by commands said) it.journal (journal_text_in k later) (takes_in k later)) → (own : Bool) → nat_eq j k ≡ own
          → Says commands entry.journal (journal_text_in k (enters p j text turned deeds said ∷ later)) (takes_in k (enters p j text turned deeds said ∷ later))
      by_number after one more true e =
          let number = eqb-true j k e in
          let w : Works g jg owes old here (enters p k text turned deeds said) goes.0 goes.1 = subst (λ (i : ℕ). Works g jg owes old here (enters p i text turned deeds said) goes.0 goes.1) number goes.2 in
          let turn = own_turn k p text turned deeds said later old goes.0 here goes.1 w commands after stands one (more p) in
          rw e (subst (λ (it : Entry J). Says commands it.journal (journal_text_by text turned (journal_text_in k later)) (takes_by turned (takes_in k later))) (same_entry (here.offices k) p o w.0 entry w.3 at) turn)
      by_number after one more false e =
          let there : goes.1.offices k ≡ Some (o, entry) = goes.2.8 k ∙ rw e at in
          let commands_more = more_by commands said in
          let accepted : AreAccepted [] (commands ++ commands_more.0) = subst (λ (cs : List Command). AreAccepted [] cs) commands_more.1 (are_accepted (responder_of goes.0) (commands_by commands said) one) in
          let says = says_before commands commands_more.0 entry.journal (journal_text_in k later) (takes_in k later) accepted
          (subst (λ (cs : List Command). Says cs entry.journal (journal_text_in k later) (takes_in k later)) commands_more.1 (more o entry there)) in
          rw e says

  -- ---- a line that asks for a journal

  begun_says : (commands : List Command) (desk : Desk R) (behind : ℕ) (telling : JournalState J) (told : List ℕ) (takes : Bool) → g.stands_for (responder_of desk) commands → Begins g jg desk behind telling → Says commands telling told takes
      → IsJournalWritten g jg commands behind told takes
  begun_says commands desk behind Idle told takes stands begins says = absurd begins
  begun_says commands desk behind (Writing lines) told takes stands begins says = absurd begins
  begun_says commands desk behind (Rejected fault) told takes stands begins says = elim (begins.cause commands stands) [
    | inl above ↦ inr (fault, inl above, says)
    | inr memory ↦ inr (fault, inr (memory.0, inl memory.1), says)
  ]
  begun_says commands desk behind (Reading asked) told takes stands begins says =
      let begun = begins.1.begun commands stands in
      let after : jg.behind_of asked.reading ≡ behind = begins.1.after in
      let newest : jg.newest_of asked.reading ≡ length commands = begun.1 in
      elim (says begun.3 (begins.0 ∙ sym after)) [
        | inl all ↦ inl (begun.0, subst (λ (l : List ℕ). IsBeginningOf l told takes) (whole after newest) all)
        | inr none ↦ inr (none.0, inr (begun.0, none.1), none.2)
      ]
    where
      whole : jg.behind_of asked.reading ≡ behind → jg.newest_of asked.reading ≡ length commands
          → lines_of (drop (jg.behind_of asked.reading) (take (jg.newest_of asked.reading) commands)) ++ end_line (jg.newest_of asked.reading) ≡ journal_text commands behind
      whole after newest = rw (after, newest, all_taken commands) refl

  -- how the line ended
  asked_by : (o behind : ℕ) (old mid : Desk R) (entry next : Entry J) (own : List Deed) → (begun : List ℕ) → HasBegun begun entry → IsTaken g jg o old entry (JournalBegun behind) mid next own → Begins g jg old behind next.journal
  asked_by o behind old mid entry next own begun has t = elim t.1 [
    | inl some ↦
        let f = some.2 begun has in
        elim f.2 [
          | inl goes ↦ (let clash : JournalBegun behind ≡ Added = goes.0 in cc)
          | inr ended ↦ ended.1.1
        ]
    | inr last ↦ (last.2 begun has).0.1
  ]

  -- ---- what is told of each journal

  pub journals_are_written : JournalsAreWritten g jg owes
  journals_are_written o k behind text deeds said commands before later old new first next empty goes may counts stands =
      let s = split g jg owes before (enters o k text (JournalBegun behind) deeds said ∷ later) old new first next goes may in
      let rest = s.4 in
      let w = rest.2 in
      let clean = goes_clean g jg owes (enters o k text (JournalBegun behind) deeds said ∷ later) s.0 new s.1 next rest counts in
      let in_force = commands_in commands before in
      let now = goes_stands g jg owes commands before old s.0 first s.1 s.2 s.3 clean stands in
      let begun = begun_in g jg owes before old s.0 first s.1 s.2 (λ j p entry at. absurd (none_some {X = ℕ × Entry J} (p, entry) (sym (empty.1 j) ∙ at))) k o w.0 w.3 in
      let begins = asked_by o behind s.0 rest.0 w.0 w.1 w.2 begun.0 begun.1 w.4 in
      let after = goes_clean g jg owes later rest.0 new rest.1 next rest.3 counts in
      let one = goes_stands g jg owes in_force (enters o k text (JournalBegun behind) deeds said ∷ []) s.0 rest.0 s.1 rest.1 (rest.0, rest.1, w, (refl, refl)) (s.5.0, tt) after now in
      let nothing : commands_by in_force said ≡ in_force = rw w.6.1 refl in
      let there : rest.1.offices k ≡ Some (o, w.1) = w.8 k ∙ rw (eq-eqb k k refl) refl in
      let says = says_in k o later rest.0 new rest.1 next rest.3 s.5.1 in_force w.1 there counts (subst (λ (cs : List Command). g.stands_for (responder_of rest.0) cs) nothing one) in
      begun_says in_force s.0 behind w.1.journal (journal_text_in k later) (takes_in k later) now begins says
