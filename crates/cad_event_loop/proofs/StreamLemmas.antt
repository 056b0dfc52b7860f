-- What is written to the land office is the answers to the lines that were read of it.
use Rattle.std.proofs.Common.{◌≡◌, ◌⊎◌, ℕ, nat_eq, Bool, true, false, cond, not, ◌&&◌, List, [], ◌∷◌, ◌++◌, codes, length, map, filter, None, Some, refl, sym, ap, subst, ◌∙◌, append-nil, append_assoc, inl, inr, if◌then◌else◌, arith}
use Rattle.std.proofs.lemmas.Bool.{eqb-true, eq-eqb}
use Rattle.std.proofs.lemmas.Bool.Decides.{nat_tests}
use Rattle.std.specs.List.{list_all, slice_split}
use Rattle.cad_stream.specs.declared.responder.Responder.{Ghosts}
use Rattle.cad_stream.specs.declared.journal_responder.JournalResponder.{Ghosts as JournalGhosts}
use Rattle.cad_desk.specs.declared.desk.Desk.{Desk}
use Rattle.cad_network.specs.Deeds.{Deed, woke, office_came, left, given_by, taken_by, comes, IsQuiet}
use Rattle.cad_network.specs.lemmas.DeedLemmas.{given_by-append, taken_by-append, given_by-one, taken_by-one, comes-append, or_none}
use Rattle.cad_clients.specs.declared.channel.Channel.{Channel}
use Rattle.cad_office.specs.Lines.{is_lf, is_filled, lines_in}
use Rattle.cad_office_socket.specs.declared.entry.Entry.{Entry}
use Rattle.cad_office_socket.specs.declared.turned.EntryTurned.{EntryTurned}
use Rattle.cad_office_socket.specs.declared.turned.EntryTurned.TheVariants.{Wrote, Took, Added, Answered, Lost, Checked, CheckLost, StatusAnswered, StatusLost, JournalBegun, RowsRead, RowsRefused, RowsLost, Piece, PieceLost, Stops, Waits, Over}
use Rattle.cad_office_socket.specs.Buffering.{IsOfOneLine}
use Rattle.cad_office_socket.specs.Statuses.{IsStatusLine}
use Rattle.cad_office_socket.specs.Checks.{IsCheckOf}
use Rattle.cad_office_socket.specs.Turns.{unread, unwritten, has_ended, HasBegun, IsElseSame, EndsLine, IsTaken, IsCutOff, IsEntryTurn}
use Rattle.cad_event_loop.specs.Works.{AtOffice, AtOffices, IsPieceWritten, Place, Puts, Same, Said, Work, wakes, opens, acts, waits, ends, office_comes, enters, office_leaves, aside, is_last, deeds_in, deeds_of, all_deeds, Works, Goes}
use Rattle.cad_event_loop.specs.Streams.{ends_line, answer_text, answer_texts, IsLeftWell, EndsWell, TakesLine, LinesCome, OfficeIsAnswered}
use Rattle.cad_event_loop.proofs.GoesLemmas.{all_deeds-append, aside_passes, woken_quiet}
use Rattle.cad_event_loop.proofs.LifeLemmas.{apart, none_some, one_some}
use Rattle.cad_event_loop.proofs.ApartLemmas.{NotIn, NotHeld, puts_other, puts_none, act_quiet, differs, leaves_quiet, enters_apart, kept_slots, unheld}

-- ---- lines

false_true : false ≡ true → ⊥
false_true e = cc

and_first : (a b : Bool) → (a && b) ≡ true → (a ≡ true) × (b ≡ true)
and_first true b e = (refl, e)
and_first false b e = absurd (false_true e)

not_true : (a : Bool) → not a ≡ true → a ≡ false
not_true true e = absurd (false_true e)
not_true false e = refl

-- what stands before an LF is one part
split_first : (part rest : List ℕ) → IsOfOneLine part → slice_split is_lf (part ++ 10 ∷ rest) ≡ part ∷ slice_split is_lf rest
split_first [] rest one = refl
split_first (byte ∷ part) rest one =
    let both = and_first (not (is_lf byte)) (list_all (λ it. not (is_lf it)) part) one in
    rw (not_true (is_lf byte) both.0, split_first part rest both.1) refl

split_last : (part : List ℕ) → IsOfOneLine part → slice_split is_lf part ≡ part ∷ []
split_last [] one = refl
split_last (byte ∷ part) one =
    let both = and_first (not (is_lf byte)) (list_all (λ it. not (is_lf it)) part) one in
    rw (not_true (is_lf byte) both.0, split_last part both.1) refl

filled : (byte : ℕ) (text : List ℕ) → is_filled (byte ∷ text) ≡ true
filled byte text = grind (arith, nat_tests)

kept_first : (part : List ℕ) (parts : List (List ℕ)) → is_filled part ≡ true → filter is_filled (part ∷ parts) ≡ part ∷ filter is_filled parts
kept_first part parts e = ap (λ (b : Bool). cond b (part ∷ filter is_filled parts) (filter is_filled parts)) e

pub line_first : (text rest : List ℕ) → IsOfOneLine text → (text ≡ [] → ⊥) → lines_in (text ++ 10 ∷ rest) ≡ text ∷ lines_in rest
unfolding lines_in
line_first [] rest one some = absurd (some refl)
line_first (byte ∷ text) rest one some = ap (filter is_filled) (split_first (byte ∷ text) rest one) ∙ kept_first (byte ∷ text) (slice_split is_lf rest) (filled byte text)

pub line_empty : (rest : List ℕ) → lines_in (10 ∷ rest) ≡ lines_in rest
unfolding lines_in
line_empty rest = refl

pub line_last : (text : List ℕ) → IsOfOneLine text → (text ≡ [] → ⊥) → lines_in text ≡ text ∷ []
unfolding lines_in
line_last [] one some = absurd (some refl)
line_last (byte ∷ text) one some = ap (filter is_filled) (split_last (byte ∷ text) one) ∙ kept_first (byte ∷ text) [] (filled byte text)

pub line_none : lines_in [] ≡ []
unfolding lines_in
line_none = refl

one_line-append : (xs ys : List ℕ) → IsOfOneLine xs → IsOfOneLine ys → IsOfOneLine (xs ++ ys)
one_line-append [] ys x y = y
one_line-append (byte ∷ xs) ys x y =
    let both = and_first (not (is_lf byte)) (list_all (λ it. not (is_lf it)) xs) x in
    rw (both.0, one_line-append xs ys both.1 y) refl

-- ---- what is left to say from a moment on

-- the line that has begun has this text, and none has where the office sends no more
record IsReady {J : Type 0} (begun : List ℕ) (entry : Entry J) : Type 0 where
  has : HasBegun begun entry
  one : IsOfOneLine begun
  ended : has_ended entry ≡ true → (unread entry ≡ []) × (begun ≡ [])

record IsStream {J : Type 0} (begun : List ℕ) (entry : Entry J) (Come : List (List ℕ) → Type 0) (texts : List ℕ) (Well : Type 0) (read written : List ℕ) : Type 0 where
  lines : List (List ℕ)
  more : List (List ℕ)
  rest : List ℕ
  ended : lines_in (begun ++ (unread entry ++ read)) ≡ lines ++ more
  come : Come lines
  answered : unwritten entry ++ texts ≡ written ++ rest
  all : Well → (more ≡ []) × (rest ≡ [])
  none : has_ended entry ≡ true → read ≡ []

same_bytes : {J : Type 0} (begun : List ℕ) (entry : Entry J) (Come : List (List ℕ) → Type 0) (texts : List ℕ) (Well : Type 0) (read written more_read more_written : List ℕ) → more_read ≡ read → more_written ≡ written
    → IsStream begun entry Come texts Well read written → IsStream begun entry Come texts Well more_read more_written
same_bytes begun entry Come texts Well read written more_read more_written e f s =
    subst (λ (r : List ℕ). IsStream begun entry Come texts Well r more_written) (sym e) (subst (λ (w : List ℕ). IsStream begun entry Come texts Well read w) (sym f) s)

-- the office is not here any more
gone_stream : {J : Type 0} (begun : List ℕ) (entry : Entry J) (Come : List (List ℕ) → Type 0) (texts : List ℕ) (Well : Type 0) (read written : List ℕ) → Come [] → texts ≡ [] → (Well → ⊥) → read ≡ [] → written ≡ []
    → IsStream begun entry Come texts Well read written
gone_stream begun entry Come texts Well read written come none never unread_more unwritten_more = record {
  lines = [];
  more = lines_in (begun ++ (unread entry ++ read));
  rest = unwritten entry;
  ended = refl;
  come = come;
  answered = rw (none, unwritten_more) (append-nil (unwritten entry));
  all = λ well. absurd (never well);
  none = λ ended. unread_more;
}

module _ {R J W : Type 0} (g : Ghosts R) (jg : JournalGhosts R J) (owes : W → List ℕ) (o : ℕ) where
  -- a turn at which the connection goes on or a line ends, and what is left to say after it
  record IsStep (told : List ℕ) (turned : EntryTurned) (old mid : Desk R) (begun : List ℕ) (entry after : Entry J) (own : List Deed) : Type 1 where
    ls : List (List ℕ)
    next : List ℕ
    ready : IsReady next after
    read : (later : List ℕ) → (has_ended after ≡ true → later ≡ []) → lines_in (begun ++ (unread entry ++ (given_by o own ++ later))) ≡ ls ++ lines_in (next ++ (unread after ++ later))
    comes_to : (Come : List (List ℕ) → Type 0) (lines : List (List ℕ)) → Come lines → TakesLine g jg (ends_line turned) old turned mid Come (ls ++ lines)
    written : unwritten entry ++ answer_text told turned ≡ taken_by o own ++ unwritten after
    none : has_ended entry ≡ true → (given_by o own ≡ []) × (has_ended after ≡ true)

  step_then : (told : List ℕ) (turned : EntryTurned) (old mid : Desk R) (begun : List ℕ) (entry after : Entry J) (own deeds : List Deed) (Come : List (List ℕ) → Type 0) (texts : List ℕ) (Well : Type 0) (read written : List ℕ)
      → (IsLeftWell o turned deeds → ⊥) → (s : IsStep told turned old mid begun entry after own) → IsStream s.next after Come texts Well read written
      → IsStream begun entry (TakesLine g jg (ends_line turned) old turned mid Come) (answer_text told turned ++ texts) (IsLeftWell o turned deeds ⊎ Well) (given_by o own ++ read) (taken_by o own ++ written)
  step_then told turned old mid begun entry after own deeds Come texts Well read written never s later = record {
    lines = s.ls ++ later.lines;
    more = later.more;
    rest = later.rest;
    ended = s.read read later.none ∙ (ap (λ (l : List (List ℕ)). s.ls ++ l) later.ended ∙ sym (append_assoc s.ls later.lines later.more));
    come = s.comes_to Come later.lines later.come;
    answered = sym (append_assoc (unwritten entry) (answer_text told turned) texts)
        ∙ (ap (λ (l : List ℕ). l ++ texts) s.written
        ∙ (append_assoc (taken_by o own) (unwritten after) texts
        ∙ (ap (λ (l : List ℕ). taken_by o own ++ l) later.answered ∙ sym (append_assoc (taken_by o own) written later.rest))));
    all = λ well. elim well [
      | inl now ↦ absurd (never now)
      | inr later_on ↦ later.all later_on
    ];
    none = λ ended. let both = s.none ended in rw (both.0, later.none both.1) refl;
  }

  -- a line with this text ends
  record IsEnded (turned : EntryTurned) (old mid : Desk R) (text : List ℕ) (after : Entry J) : Type 1 where
    ls : List (List ℕ)
    has : HasBegun [] after
    whole : (rest : List ℕ) → lines_in (text ++ 10 ∷ rest) ≡ ls ++ lines_in rest
    last : lines_in text ≡ ls
    comes_to : (Come : List (List ℕ) → Type 0) (lines : List (List ℕ)) → Come lines → TakesLine g jg (ends_line turned) old turned mid Come (ls ++ lines)
    written : (told : List ℕ) → answer_text told turned ≡ unwritten after

  -- a line that asks for a check is not empty
  status_some : (text : List ℕ) → IsStatusLine text → text ≡ [] → ⊥
  status_some text is none = (let clash : ◌≡◌ {A = List ℕ} [] (codes "status") = sym none ∙ is in cc)

  check_some : (text line : List ℕ) → IsCheckOf text line → text ≡ [] → ⊥
  check_some text line is none = (let clash : ◌≡◌ {A = List ℕ} [] (codes "check " ++ line) = sym none ∙ is in cc)

  -- nor is one that asks for a journal
  journal_some : (text digits : List ℕ) → text ≡ codes "journal " ++ digits → text ≡ [] → ⊥
  journal_some text digits is none = (let clash : ◌≡◌ {A = List ℕ} [] (codes "journal " ++ digits) = sym none ∙ is in cc)

  ended_text : (turned : EntryTurned) (old mid : Desk R) (text : List ℕ) (after : Entry J) → IsOfOneLine text → EndsLine g jg text old turned mid after → IsEnded turned old mid text after
  ended_text Added old mid text after one e = record {
    ls = [];
    has = e.3;
    whole = λ rest. rw e.0 (line_empty rest);
    last = rw e.0 line_none;
    comes_to = λ Come lines come. come;
    written = λ told. sym e.2;
  }
  ended_text (Answered answer) old mid text after one e = record {
    ls = text ∷ [];
    has = e.3;
    whole = λ rest. line_first text rest one e.0.0;
    last = line_last text one e.0.0;
    comes_to = λ Come lines come. (e.1, come);
    written = λ told. sym e.2;
  }
  ended_text (Lost answer) old mid text after one e = record {
    ls = text ∷ [];
    has = e.3;
    whole = λ rest. line_first text rest one e.0.0;
    last = line_last text one e.0.0;
    comes_to = λ Come lines come. (e.1, come);
    written = λ told. sym e.2;
  }
  ended_text (Checked report) old mid text after one e = record {
    ls = text ∷ [];
    has = e.2;
    whole = λ rest. line_first text rest one (check_some text e.0.0 e.0.1);
    last = line_last text one (check_some text e.0.0 e.0.1);
    comes_to = λ Come lines come. (e.0, come);
    written = λ told. sym e.1;
  }
  ended_text (CheckLost report) old mid text after one e = record {
    ls = text ∷ [];
    has = e.2;
    whole = λ rest. line_first text rest one (check_some text e.0.0 e.0.1);
    last = line_last text one (check_some text e.0.0 e.0.1);
    comes_to = λ Come lines come. (e.0, come);
    written = λ told. sym e.1;
  }
  ended_text (StatusAnswered status) old mid text after one e = record {
    ls = text ∷ [];
    has = e.2;
    whole = λ rest. line_first text rest one (status_some text e.0.0);
    last = line_last text one (status_some text e.0.0);
    comes_to = λ Come lines come. (e.0, come);
    written = λ told. sym e.1;
  }
  ended_text StatusLost old mid text after one e = record {
    ls = text ∷ [];
    has = e.3;
    whole = λ rest. line_first text rest one (status_some text e.0);
    last = line_last text one (status_some text e.0);
    comes_to = λ Come lines come. ((e.0, e.1), come);
    written = λ told. sym e.2;
  }
  ended_text Stops old mid text after one e =
      let some : (text ≡ [] → ⊥) = (λ none. (let clash : ◌≡◌ {A = List ℕ} [] (codes "stop") = sym none ∙ e.0 in cc)) in
      record {
        ls = text ∷ [];
        has = e.3;
        whole = λ rest. line_first text rest one some;
        last = line_last text one some;
        comes_to = λ Come lines come. ((e.0, e.1), come);
        written = λ told. sym e.2;
      }
  ended_text (JournalBegun behind) old mid text after one e =
      let some = journal_some text e.0.0 e.0.1 in
      record {
        ls = text ∷ [];
        has = e.4;
        whole = λ rest. line_first text rest one some;
        last = line_last text one some;
        comes_to = λ Come lines come. ((e.0, e.2), come);
        written = λ told. sym e.3;
      }
  ended_text RowsRead old mid text after one e = absurd e
  ended_text (RowsRefused fault) old mid text after one e = absurd e
  ended_text (RowsLost fault) old mid text after one e = absurd e
  ended_text Piece old mid text after one e = absurd e
  ended_text PieceLost old mid text after one e = absurd e
  ended_text Over old mid text after one e = absurd e
  ended_text Wrote old mid text after one e = absurd e
  ended_text Took old mid text after one e = absurd e
  ended_text Waits old mid text after one e = absurd e

  no_more : (entry : Entry J) (what : Type 0) → has_ended entry ≡ false → has_ended entry ≡ true → what
  no_more entry what goes ended = absurd (false_true (sym goes ∙ ended))

  -- bytes of a line are taken, or it ends
  taken_step : (told : List ℕ) (turned : EntryTurned) (old mid : Desk R) (begun : List ℕ) (entry after : Entry J) (own : List Deed) → IsReady begun entry → IsTaken g jg o old entry turned mid after own → IsStep told turned old mid begun entry after own
  taken_step told turned old mid begun entry after own ready t = elim t.1 [
    | inl some ↦
        let goes : has_ended entry ≡ true → ⊥ = (λ ended. let none = ap (λ (l : List ℕ). length l) (ready.ended ended).0 in let there = some.1 in omega (arith, none, there)) in
        let fed = some.2 begun ready.has in
        elim fed.2 [
          | inl on ↦ subst (λ (it : EntryTurned). IsStep told it old mid begun entry after own) (sym on.0) record {
            ls = [];
            next = begun ++ fed.0;
            ready = record { has = on.5; one = one_line-append begun fed.0 ready.one fed.1; ended = λ ended. absurd (goes (sym some.3 ∙ ended)) };
            read = λ later still. rw (some.0, on.3, on.4) (ap (λ (l : List ℕ). lines_in l) (sym (append_assoc begun fed.0 later)));
            comes_to = λ Come lines come. come;
            written = rw (some.0, t.0, on.2) refl;
            none = λ ended. absurd (goes ended);
          }
          | inr end ↦
              let text = begun ++ fed.0 in
              let e = ended_text turned old mid text after (one_line-append begun fed.0 ready.one fed.1) end.1 in
              record {
                ls = e.ls;
                next = [];
                ready = record { has = e.has; one = refl; ended = λ ended. absurd (goes (sym some.3 ∙ ended)) };
                read = λ later still.
                    rw (some.0, end.0)
                    (ap (λ (l : List ℕ). lines_in (begun ++ l)) (append_assoc fed.0 (10 ∷ unread after) later) ∙ (ap (λ (l : List ℕ). lines_in l) (sym (append_assoc begun fed.0 (10 ∷ (unread after ++ later)))) ∙ e.whole (unread after ++ later)));
                comes_to = e.comes_to;
                written = rw (some.0, t.0) (e.written told);
                none = λ ended. absurd (goes ended);
              }
        ]
    | inr last ↦
        let line = last.2 begun ready.has in
        let e = ended_text turned old mid begun after ready.one line.0 in
        let after_none : unread after ≡ [] = line.1 ∙ last.1 in
        record {
          ls = e.ls;
          next = [];
          ready = record { has = e.has; one = refl; ended = λ ended. (after_none, refl) };
          read = λ later still.
              rw (last.0, given_by-one o [], last.1, after_none, still last.3, line_none) (ap (λ (l : List ℕ). lines_in l) (append-nil begun) ∙ (e.last ∙ sym (append-nil e.ls)));
          comes_to = e.comes_to;
          written = rw (last.0, t.0) (e.written told);
          none = no_more entry ((given_by o own ≡ []) × (has_ended after ≡ true)) last.4;
        }
  ]

  -- a journal is told
  telling_step : (told : List ℕ) (turned : EntryTurned) (old mid : Desk R) (begun : List ℕ) (entry after : Entry J) (own : List Deed) → IsReady begun entry → ends_line turned ≡ false
      → own ≡ [] → unwritten entry ≡ [] → IsElseSame entry after → answer_text told turned ≡ unwritten after → IsStep told turned old mid begun entry after own
  telling_step told turned old mid begun entry after own ready no_line nothing unsent same text = record {
    ls = [];
    next = begun;
    ready = record { has = rw same.1 ready.has; one = ready.one; ended = λ ended. let both = ready.ended (sym same.2 ∙ ended) in (same.0 ∙ both.0, both.1) };
    read = λ later still. rw (nothing, same.0) refl;
    comes_to = λ Come lines come. rw no_line come;
    written = rw (nothing, unsent) text;
    none = λ ended. (rw nothing refl, same.2 ∙ ended);
  }

  -- a turn after which the office is here, or a line was answered
  turn_step : (told : List ℕ) (turned : EntryTurned) (old mid : Desk R) (begun : List ℕ) (entry after : Entry J) (own : List Deed) → IsReady begun entry → (turned ≡ Over → ⊥) → IsEntryTurn g jg o old entry turned mid after own → IsPieceWritten told turned after
      → IsStep told turned old mid begun entry after own
  turn_step told Wrote old mid begun entry after own ready not t text = record {
    ls = [];
    next = begun;
    ready = record { has = rw t.5 ready.has; one = ready.one; ended = λ ended. let both = ready.ended (sym t.7 ∙ ended) in (t.4 ∙ both.0, both.1) };
    read = λ later still. rw (t.1, t.4) refl;
    comes_to = λ Come lines come. come;
    written = rw (t.1, taken_by-one o t.0) (append-nil (unwritten entry) ∙ t.3);
    none = λ ended. (rw t.1 refl, t.7 ∙ ended);
  }
  turn_step told Took old mid begun entry after own ready not t text = record {
    ls = [];
    next = begun;
    ready = record { has = rw t.6 ready.has; one = ready.one; ended = λ ended. no_more entry ((unread after ≡ []) × (begun ≡ [])) t.3.2 (sym t.8 ∙ ended) };
    read = λ later still. rw (t.1, given_by-one o t.0, t.3.1, t.5) refl;
    comes_to = λ Come lines come. come;
    written = rw (t.1, t.3.0, t.4) refl;
    none = no_more entry ((given_by o own ≡ []) × (has_ended after ≡ true)) t.3.2;
  }
  turn_step told Waits old mid begun entry after own ready not t text = subst (λ (it : Entry J). IsStep told Waits old mid begun entry it own) (sym t.3) record {
    ls = [];
    next = begun;
    ready = ready;
    read = λ later still. rw t.0 refl;
    comes_to = λ Come lines come. come;
    written = rw t.0 (append-nil (unwritten entry));
    none = λ ended. (rw t.0 refl, ended);
  }
  turn_step told Added old mid begun entry after own ready not t text = taken_step told Added old mid begun entry after own ready t
  turn_step told (Answered answer) old mid begun entry after own ready not t text = taken_step told (Answered answer) old mid begun entry after own ready t
  turn_step told (Lost answer) old mid begun entry after own ready not t text = taken_step told (Lost answer) old mid begun entry after own ready t
  turn_step told (Checked report) old mid begun entry after own ready not t text = taken_step told (Checked report) old mid begun entry after own ready t
  turn_step told (CheckLost report) old mid begun entry after own ready not t text = taken_step told (CheckLost report) old mid begun entry after own ready t
  turn_step told (StatusAnswered status) old mid begun entry after own ready not t text = taken_step told (StatusAnswered status) old mid begun entry after own ready t
  turn_step told StatusLost old mid begun entry after own ready not t text = taken_step told StatusLost old mid begun entry after own ready t
  turn_step told Stops old mid begun entry after own ready not t text = taken_step told Stops old mid begun entry after own ready t
  turn_step told (JournalBegun behind) old mid begun entry after own ready not t text = taken_step told (JournalBegun behind) old mid begun entry after own ready t
  turn_step told RowsRead old mid begun entry after own ready not t text = telling_step told RowsRead old mid begun entry after own ready refl t.0 t.1 t.2.4 (sym t.2.3)
  turn_step told (RowsRefused fault) old mid begun entry after own ready not t text = telling_step told (RowsRefused fault) old mid begun entry after own ready refl t.0 t.1 t.2.4 (sym t.2.3)
  turn_step told (RowsLost fault) old mid begun entry after own ready not t text = telling_step told (RowsLost fault) old mid begun entry after own ready refl t.0 t.1 t.2.4 (sym t.2.3)
  turn_step told Piece old mid begun entry after own ready not t text = telling_step told Piece old mid begun entry after own ready refl t.0 t.1 t.2.1 (sym text)
  turn_step told PieceLost old mid begun entry after own ready not t text = telling_step told PieceLost old mid begun entry after own ready refl t.0 t.1 t.2.2 (sym t.2.1)
  turn_step told Over old mid begun entry after own ready not t text = absurd (not refl)

  -- the connection is over, and nothing is done at its socket then
  over_read : (entry : Entry J) (own : List Deed) → IsCutOff g jg o entry own → (taken_by o own ≡ []) × (has_ended entry ≡ true → given_by o own ≡ [])
  over_read entry own cut = elim cut [
    | inl well ↦ (rw well.0 refl, λ ended. rw well.0 refl)
    | inr more ↦
        elim more [
          | inl unwritten ↦
              elim unwritten.0 [
                | inl undone ↦ (rw undone refl, λ ended. rw undone refl)
                | inr none ↦ (rw none (taken_by-one o []), λ ended. rw none refl)
              ]
          | inr rest ↦
              elim rest [
                | inl undone ↦ (rw undone.0 refl, λ ended. rw undone.0 refl)
                | inr unkept ↦ (rw unkept.1 refl, no_more entry (given_by o own ≡ []) unkept.3.2)
              ]
        ]
  ]

  -- it ended well where nothing was done at its socket
  over_well : (entry : Entry J) (own : List Deed) → IsCutOff g jg o entry own → own ++ left o ∷ [] ≡ left o ∷ [] → (own ≡ []) × (unwritten entry ≡ []) × (has_ended entry ≡ true)
  over_well entry own cut same = elim cut [
    | inl well ↦ (well.0, well.1, well.2)
    | inr more ↦
        elim more [
          | inl unwritten ↦
              elim unwritten.0 [
                | inl undone ↦ (let clash = rw undone at same in cc)
                | inr none ↦ (let clash = rw none at same in cc)
              ]
          | inr rest ↦
              elim rest [
                | inl undone ↦ (let clash = rw undone.0 at same in cc)
                | inr unkept ↦ (let clash = rw unkept.1 at same in cc)
              ]
        ]
  ]

  over_stream : (begun : List ℕ) (entry : Entry J) (own deeds : List Deed) (Come : List (List ℕ) → Type 0) (texts : List ℕ) (Well : Type 0) (read written : List ℕ)
      → IsReady begun entry → IsCutOff g jg o entry own → deeds ≡ own ++ left o ∷ [] → Come [] → texts ≡ [] → (Well → ⊥) → read ≡ [] → written ≡ []
      → IsStream begun entry Come texts (IsLeftWell o Over deeds ⊎ Well) (given_by o own ++ read) (taken_by o own ++ written)
  over_stream begun entry own deeds Come texts Well read written ready cut are come none never unread_more unwritten_more =
      let bytes = over_read entry own cut in
      record {
        lines = [];
        more = lines_in (begun ++ (unread entry ++ (given_by o own ++ read)));
        rest = unwritten entry;
        ended = refl;
        come = come;
        answered = rw (none, unwritten_more, bytes.0) (append-nil (unwritten entry));
        all = λ well. elim well [
          | inl now ↦
              let end = over_well entry own cut (sym are ∙ now) in
              let nothing = ready.ended end.2 in
              (rw (end.0, unread_more, nothing.0, nothing.1) line_none, end.1)
          | inr later_on ↦ absurd (never later_on)
        ];
        none = λ ended. rw (bytes.1 ended, unread_more) refl;
      }

  -- ---- the office's turns among all that is done

  -- nothing is said of it where it is not here
  record IsGone (works : List Work) (old new : Desk R) (here next : Place J W) (goes : Goes g jg owes old here works new next) : Type 0 where
    come : LinesCome g jg owes o works old new here next goes []
    texts : answer_texts o works ≡ []
    never : EndsWell o works → ⊥

  -- one thing is done while it is not here
  apart_step : (work : Work) (later : List Deed) (old mid : Desk R) (here between : Place J W) → NotHeld o here → Works g jg owes old here work mid between → comes o (deeds_of work ++ later) ≡ false → NotHeld o between × (comes o later ≡ false)
  apart_step work later old mid here between not works none =
      let parts = or_none (comes o (deeds_of work)) (comes o later) (sym (comes-append o (deeds_of work) later) ∙ none) in
      let first : comes o (all_deeds (work ∷ [])) ≡ false = ap (λ (l : List Deed). comes o l) (append-nil (deeds_of work)) ∙ parts.0 in
      ((unheld g jg owes o (work ∷ []) old mid here between (mid, between, works, (refl, refl)) not first).1, parts.1)

  gone : (works : List Work) (old new : Desk R) (here next : Place J W) (goes : Goes g jg owes old here works new next) → NotHeld o here → comes o (all_deeds works) ≡ false → IsGone works old new here next goes
  gone [] old new here next goes not none = record { come = refl; texts = refl; never = λ well. well }
  gone (wakes places ∷ later) old new here next goes not none =
      let step = apart_step (wakes places) (all_deeds later) old goes.0 here goes.1 not goes.2 none in
      let rest = gone later goes.0 new goes.1 next goes.3 step.0 step.1 in
      record { come = rest.come; texts = rest.texts; never = rest.never }
  gone (opens s c ∷ later) old new here next goes not none =
      let step = apart_step (opens s c) (all_deeds later) old goes.0 here goes.1 not goes.2 none in
      let rest = gone later goes.0 new goes.1 next goes.3 step.0 step.1 in
      record { come = rest.come; texts = rest.texts; never = rest.never }
  gone (acts s c act owing ∷ later) old new here next goes not none =
      let step = apart_step (acts s c act owing) (all_deeds later) old goes.0 here goes.1 not goes.2 none in
      let rest = gone later goes.0 new goes.1 next goes.3 step.0 step.1 in
      record { come = rest.come; texts = rest.texts; never = rest.never }
  gone (waits s c ∷ later) old new here next goes not none =
      let step = apart_step (waits s c) (all_deeds later) old goes.0 here goes.1 not goes.2 none in
      let rest = gone later goes.0 new goes.1 next goes.3 step.0 step.1 in
      record { come = rest.come; texts = rest.texts; never = rest.never }
  gone (ends s c cause deeds said ∷ later) old new here next goes not none =
      let step = apart_step (ends s c cause deeds said) (all_deeds later) old goes.0 here goes.1 not goes.2 none in
      let rest = gone later goes.0 new goes.1 next goes.3 step.0 step.1 in
      record { come = rest.come; texts = rest.texts; never = rest.never }
  gone (office_comes p j ∷ later) old new here next goes not none =
      let step = apart_step (office_comes p j) (all_deeds later) old goes.0 here goes.1 not goes.2 none in
      let rest = gone later goes.0 new goes.1 next goes.3 step.0 step.1 in
      record { come = rest.come; texts = rest.texts; never = rest.never }
  gone (office_leaves p j overdue ∷ later) old new here next goes not none =
      let step = apart_step (office_leaves p j overdue) (all_deeds later) old goes.0 here goes.1 not goes.2 none in
      let rest = gone later goes.0 new goes.1 next goes.3 step.0 step.1 in
      record { come = rest.come; texts = rest.texts; never = rest.never }
  gone (aside deeds said ∷ later) old new here next goes not none =
      let step = apart_step (aside deeds said) (all_deeds later) old goes.0 here goes.1 not goes.2 none in
      let rest = gone later goes.0 new goes.1 next goes.3 step.0 step.1 in
      record { come = rest.come; texts = rest.texts; never = rest.never }
  gone (enters p j text turned deeds said ∷ later) old new here next goes not none =
      let step = apart_step (enters p j text turned deeds said) (all_deeds later) old goes.0 here goes.1 not goes.2 none in
      let rest = gone later goes.0 new goes.1 next goes.3 step.0 step.1 in
      let other = differs p o (λ same. not.1 j goes.2.0 (goes.2.3 ∙ ap (λ (n : ℕ). Some (n, goes.2.0)) same)) in
      record {
        come = rw other rest.come;
        texts = rw other rest.texts;
        never = λ well. elim well [
          | inl here_now ↦ apart p o other here_now.0
          | inr later_on ↦ rest.never later_on
        ];
      }

  abbrev Streams : (begun : List ℕ) (entry : Entry J) (works : List Work) (old new : Desk R) (here next : Place J W) → Goes g jg owes old here works new next → Type 0
  Streams begun entry works old new here next goes =
      IsStream begun entry (LinesCome g jg owes o works old new here next goes) (answer_texts o works) (EndsWell o works) (given_by o (all_deeds works)) (taken_by o (all_deeds works))

  -- the office left, and its socket comes no more
  gone_streams : (begun : List ℕ) (entry : Entry J) (works : List Work) (old new : Desk R) (here next : Place J W) (goes : Goes g jg owes old here works new next) → NotHeld o here → comes o (all_deeds works) ≡ false → Streams begun entry works old new here next goes
  gone_streams begun entry works old new here next goes not none =
      let is = gone works old new here next goes not none in
      let quiet = (unheld g jg owes o works old new here next goes not none).0 in
      gone_stream begun entry (LinesCome g jg owes o works old new here next goes) (answer_texts o works) (EndsWell o works) (given_by o (all_deeds works)) (taken_by o (all_deeds works)) is.come is.texts is.never quiet.0 quiet.1

  given_more : (deeds rest : List Deed) → IsQuiet o deeds → given_by o (deeds ++ rest) ≡ given_by o rest
  given_more deeds rest quiet = given_by-append o deeds rest ∙ rw quiet.0 refl

  taken_more : (deeds rest : List Deed) → IsQuiet o deeds → taken_by o (deeds ++ rest) ≡ taken_by o rest
  taken_more deeds rest quiet = taken_by-append o deeds rest ∙ rw quiet.1 refl

  -- what is done at other sockets says nothing of it
  beside : (begun : List ℕ) (entry : Entry J) (deeds : List Deed) (later : List Work) (old new : Desk R) (here next : Place J W) (goes : Goes g jg owes old here later new next) → IsQuiet o deeds → Streams begun entry later old new here next goes
      → IsStream begun entry (LinesCome g jg owes o later old new here next goes) (answer_texts o later) (EndsWell o later) (given_by o (deeds ++ all_deeds later)) (taken_by o (deeds ++ all_deeds later))
  beside begun entry deeds later old new here next goes quiet s =
      same_bytes begun entry (LinesCome g jg owes o later old new here next goes) (answer_texts o later) (EndsWell o later) (given_by o (all_deeds later)) (taken_by o (all_deeds later)) (given_by o (deeds ++ all_deeds later)) (taken_by o (deeds ++ all_deeds later))
      (given_more deeds (all_deeds later) quiet) (taken_more deeds (all_deeds later) quiet) s

  -- a turn of another connection of the land office
  beside_turn : (p j : ℕ) (text : List ℕ) (turned : EntryTurned) (deeds : List Deed) (said : Said) (was mid : Desk R) (begun : List ℕ) (entry : Entry J) (later : List Work) (new : Desk R) (here next : Place J W) (goes : Goes g jg owes mid here later new next)
      → nat_eq p o ≡ false → IsQuiet o deeds → Streams begun entry later mid new here next goes
      → IsStream begun entry (TakesLine g jg (nat_eq p o && ends_line turned) was turned mid (LinesCome g jg owes o later mid new here next goes)) (if nat_eq p o then answer_text text turned ++ answer_texts o later else answer_texts o later)
      (((p ≡ o) × IsLeftWell o turned deeds) ⊎ EndsWell o later) (given_by o (deeds ++ all_deeds later)) (taken_by o (deeds ++ all_deeds later))
  beside_turn p j text turned deeds said was mid begun entry later new here next goes other quiet s =
      let t = beside begun entry deeds later mid new here next goes quiet s in
      rw other record {
        lines = t.lines;
        more = t.more;
        rest = t.rest;
        ended = t.ended;
        come = t.come;
        answered = t.answered;
        all = λ well. elim well [
          | inl now ↦ absurd (apart p o other now.0)
          | inr later_on ↦ t.all later_on
        ];
        none = t.none;
      }

  last_passes : (own : List Deed) (last : Bool) → (given_by o (own ++ (if last then left o ∷ [] else [])) ≡ given_by o own) × (taken_by o (own ++ (if last then left o ∷ [] else [])) ≡ taken_by o own)
  last_passes own true = (given_by-append o own (left o ∷ []) ∙ append-nil (given_by o own), taken_by-append o own (left o ∷ []) ∙ append-nil (taken_by o own))
  last_passes own false = (rw (append-nil own) refl, rw (append-nil own) refl)

  not_left : (turned : EntryTurned) (deeds : List Deed) → (turned ≡ Over → ⊥) → IsLeftWell o turned deeds → ⊥
  not_left Over deeds not well = not refl
  not_left Wrote deeds not well = well
  not_left Took deeds not well = well
  not_left Added deeds not well = well
  not_left (Answered answer) deeds not well = well
  not_left (Lost answer) deeds not well = well
  not_left (Checked report) deeds not well = well
  not_left (CheckLost report) deeds not well = well
  not_left (StatusAnswered status) deeds not well = well
  not_left StatusLost deeds not well = well
  not_left (JournalBegun behind) deeds not well = well
  not_left RowsRead deeds not well = well
  not_left (RowsRefused fault) deeds not well = well
  not_left (RowsLost fault) deeds not well = well
  not_left Piece deeds not well = well
  not_left PieceLost deeds not well = well
  not_left Stops deeds not well = well
  not_left Waits deeds not well = well

  is_over : (turned : EntryTurned) → (turned ≡ Over) ⊎ (turned ≡ Over → ⊥)
  is_over Over = inl refl
  is_over Wrote = inr (λ e. cc)
  is_over Took = inr (λ e. cc)
  is_over Added = inr (λ e. cc)
  is_over (Answered answer) = inr (λ e. cc)
  is_over (Lost answer) = inr (λ e. cc)
  is_over (Checked report) = inr (λ e. cc)
  is_over (CheckLost report) = inr (λ e. cc)
  is_over (StatusAnswered status) = inr (λ e. cc)
  is_over StatusLost = inr (λ e. cc)
  is_over (JournalBegun behind) = inr (λ e. cc)
  is_over RowsRead = inr (λ e. cc)
  is_over (RowsRefused fault) = inr (λ e. cc)
  is_over (RowsLost fault) = inr (λ e. cc)
  is_over Piece = inr (λ e. cc)
  is_over PieceLost = inr (λ e. cc)
  is_over Stops = inr (λ e. cc)
  is_over Waits = inr (λ e. cc)

  -- a turn of the office, and what is said after it
  module _ (told : List ℕ) (begun : List ℕ) (entry after : Entry J) (turned : EntryTurned) (old mid : Desk R) (own : List Deed) (Come : List (List ℕ) → Type 0) (texts : List ℕ) (Well : Type 0) (read written : List ℕ)
      (ready : IsReady begun entry) (turn : IsEntryTurn g jg o old entry turned mid after own) (text : IsPieceWritten told turned after) where
    abbrev After : List Deed → Type 0
    After deeds = IsStream begun entry (TakesLine g jg (ends_line turned) old turned mid Come) (answer_text told turned ++ texts) (IsLeftWell o turned deeds ⊎ Well) (given_by o own ++ read) (taken_by o own ++ written)

    -- it is here after it
    turn_goes : (deeds : List Deed) → (turned ≡ Over → ⊥) → ((next : List ℕ) → IsReady next after → IsStream next after Come texts Well read written) → After deeds
    turn_goes deeds not later =
        let step = turn_step told turned old mid begun entry after own ready not turn text in
        step_then told turned old mid begun entry after own deeds Come texts Well read written (not_left turned deeds not) step (later step.next step.ready)

    -- or it left
    turn_ends : (deeds : List Deed) → deeds ≡ own ++ left o ∷ [] → Come [] → texts ≡ [] → (Well → ⊥) → read ≡ [] → written ≡ [] → After deeds
    turn_ends deeds are come none never unread_more unwritten_more = elim (is_over turned) [
      | inl over ↦
          let cut = (subst (λ (it : EntryTurned). IsEntryTurn g jg o old entry it mid after own) over turn).0 in
          subst (λ (it : EntryTurned). IsStream begun entry (TakesLine g jg (ends_line it) old it mid Come) (answer_text told it ++ texts) (IsLeftWell o it deeds ⊎ Well) (given_by o own ++ read) (taken_by o own ++ written)) (sym over)
          (over_stream begun entry own deeds Come texts Well read written ready cut are come none never unread_more unwritten_more)
      | inr not ↦ turn_goes deeds not (λ next is. gone_stream next after Come texts Well read written come none never unread_more unwritten_more)
    ]

  -- the same as one of the works
  entered : (told : List ℕ) (p : ℕ) (begun : List ℕ) (entry : Entry J) (turned : EntryTurned) (old mid : Desk R) (deeds own : List Deed) (Come : List (List ℕ) → Type 0) (texts : List ℕ) (Well : Type 0) (later : List Deed) (written : List ℕ)
      → nat_eq p o ≡ true → (given_by o deeds ≡ given_by o own) × (taken_by o deeds ≡ taken_by o own)
      → IsStream begun entry (TakesLine g jg (ends_line turned) old turned mid Come) (answer_text told turned ++ texts) (IsLeftWell o turned deeds ⊎ Well) (given_by o own ++ given_by o later) (taken_by o own ++ taken_by o later)
      → IsStream begun entry (TakesLine g jg (nat_eq p o && ends_line turned) old turned mid Come) (if nat_eq p o then answer_text told turned ++ texts else texts) (((p ≡ o) × IsLeftWell o turned deeds) ⊎ Well) (given_by o (deeds ++ later)) (taken_by o (deeds ++ later))
  entered told p begun entry turned old mid deeds own Come texts Well later written same bytes s =
      let t =
      same_bytes begun entry (TakesLine g jg (ends_line turned) old turned mid Come) (answer_text told turned ++ texts) (IsLeftWell o turned deeds ⊎ Well) (given_by o own ++ given_by o later) (taken_by o own ++ taken_by o later) (given_by o (deeds ++ later)) (taken_by o (deeds ++ later))
      (given_by-append o deeds later ∙ ap (λ (l : List ℕ). l ++ given_by o later) bytes.0) (taken_by-append o deeds later ∙ ap (λ (l : List ℕ). l ++ taken_by o later) bytes.1) s in
      rw same record {
        lines = t.lines;
        more = t.more;
        rest = t.rest;
        ended = t.ended;
        come = t.come;
        answered = t.answered;
        all = λ well. elim well [
          | inl now ↦ t.all (inl now.1)
          | inr later_on ↦ t.all (inr later_on)
        ];
        none = t.none;
      }

  same_office : (p : ℕ) (entry other : Entry J) (office : AtOffice J) → office ≡ Some (p, other) → office ≡ Some (o, entry) → (p ≡ o) × (other ≡ entry)
  same_office p entry other office x y =
      let both = one_some {X = ℕ × Entry J} (p, other) (o, entry) (sym x ∙ y) in
      (ap (λ (it : ℕ × Entry J). it.0) both, ap (λ (it : ℕ × Entry J). it.1) both)

  -- no other connection of the land office has this socket
  abbrev NotBeside : ℕ → AtOffices J → Type 0
  NotBeside k offices = (j : ℕ) (entry : Entry J) → nat_eq k j ≡ false → offices j ≡ Some (o, entry) → ⊥

  kept_beside : (k : ℕ) (old new : AtOffices J) → Same old new → NotBeside k old → NotBeside k new
  kept_beside k old new same not j entry other at = not j entry other (sym (same j) ∙ at)

  -- another connection changes
  put_beside : (k i p : ℕ) (one : AtOffice J) (old new : AtOffices J) → ((entry : Entry J) → one ≡ Some (o, entry) → ⊥) → Puts old new i one → NotBeside k old → NotBeside k new
  put_beside k i p one old new apart_from puts not j entry other at = go (nat_eq i j) refl
    where
      go : (same : Bool) → nat_eq i j ≡ same → ⊥
      go true e = apart_from entry (sym (puts j ∙ rw e refl) ∙ at)
      go false e = not j entry other (sym (puts j ∙ rw e refl) ∙ at)

  -- this one changes
  put_own : (k : ℕ) (one : AtOffice J) (old new : AtOffices J) → Puts old new k one → NotBeside k old → NotBeside k new
  put_own k one old new puts not j entry other at = not j entry other (sym (puts j ∙ rw other refl) ∙ at)

  -- and was its only one
  gone_beside : (k : ℕ) (old new : AtOffices J) → Puts old new k None → NotBeside k old → (j : ℕ) (entry : Entry J) → new j ≡ Some (o, entry) → ⊥
  gone_beside k old new puts not j entry at = go (nat_eq k j) refl
    where
      go : (same : Bool) → nat_eq k j ≡ same → ⊥
      go true e = none_some {X = ℕ × Entry J} (o, entry) (sym (puts j ∙ rw e refl) ∙ at)
      go false e = not j entry e (sym (puts j ∙ rw e refl) ∙ at)

  at_other : (k i : ℕ) (one : AtOffice J) (old new : AtOffices J) (entry : Entry J) → nat_eq i k ≡ false → Puts old new i one → old k ≡ Some (o, entry) → new k ≡ Some (o, entry)
  at_other k i one old new entry other puts at = puts k ∙ rw other at

  streams : (k : ℕ) (works : List Work) (old new : Desk R) (here next : Place J W) (goes : Goes g jg owes old here works new next) (begun : List ℕ) (entry : Entry J) → here.offices k ≡ Some (o, entry) → NotBeside k here.offices → NotIn o here.slots → comes o (all_deeds works) ≡ false → IsReady begun entry
      → Streams begun entry works old new here next goes
  streams k [] old new here next goes begun entry at alone not none ready = record {
    lines = [];
    more = lines_in (begun ++ (unread entry ++ []));
    rest = unwritten entry;
    ended = refl;
    come = refl;
    answered = append-nil (unwritten entry);
    all = λ well. absurd well;
    none = λ ended. refl;
  }
  streams k (wakes places ∷ later) old new here next goes begun entry at alone not none ready =
      let parts = or_none (comes o (map woke places)) (comes o (all_deeds later)) (sym (comes-append o (map woke places) (all_deeds later)) ∙ none) in
      beside begun entry (map woke places) later goes.0 new goes.1 next goes.3 (woken_quiet o places)
      (streams k later goes.0 new goes.1 next goes.3 begun entry (goes.2.2 k ∙ at) (kept_beside k here.offices goes.1.offices goes.2.2 alone) (kept_slots g jg owes o here.slots goes.1.slots goes.2.1 not) parts.1 ready)
  streams k (opens s c ∷ later) old new here next goes begun entry at alone not none ready =
      let parts = or_none (nat_eq s o) (comes o (all_deeds later)) none in
      streams k later goes.0 new goes.1 next goes.3 begun entry (goes.2.5 k ∙ at) (kept_beside k here.offices goes.1.offices goes.2.5 alone) (puts_other o c s goes.2.0 here.slots goes.1.slots parts.0 goes.2.4 not) parts.1 ready
  streams k (acts s c act owing ∷ later) old new here next goes begun entry at alone not none ready =
      let other = differs s o (λ same. not c goes.2.0 (goes.2.2 ∙ ap (λ (n : ℕ). Some (n, goes.2.0)) same)) in
      let parts = or_none (comes o (deeds_in s act)) (comes o (all_deeds later)) (sym (comes-append o (deeds_in s act) (all_deeds later)) ∙ none) in
      beside begun entry (deeds_in s act) later goes.0 new goes.1 next goes.3 (act_quiet o s act other)
      (streams k later goes.0 new goes.1 next goes.3 begun entry (goes.2.5 k ∙ at) (kept_beside k here.offices goes.1.offices goes.2.5 alone) (puts_other o c s goes.2.1 here.slots goes.1.slots other goes.2.4 not) parts.1 ready)
  streams k (waits s c ∷ later) old new here next goes begun entry at alone not none ready =
      streams k later goes.0 new goes.1 next goes.3 begun entry (goes.2.5 k ∙ at) (kept_beside k here.offices goes.1.offices goes.2.5 alone) (kept_slots g jg owes o here.slots goes.1.slots goes.2.4 not) none ready
  streams k (ends s c cause deeds said ∷ later) old new here next goes begun entry at alone not none ready =
      let other = differs s o (λ same. not c goes.2.0 (goes.2.1 ∙ ap (λ (n : ℕ). Some (n, goes.2.0)) same)) in
      let parts = or_none (comes o deeds) (comes o (all_deeds later)) (sym (comes-append o deeds (all_deeds later)) ∙ none) in
      beside begun entry deeds later goes.0 new goes.1 next goes.3 (leaves_quiet g jg owes o c s old goes.0 goes.2.0 cause deeds other goes.2.2)
      (streams k later goes.0 new goes.1 next goes.3 begun entry (goes.2.6 k ∙ at) (kept_beside k here.offices goes.1.offices goes.2.6 alone) (puts_none o c here.slots goes.1.slots goes.2.5 not) parts.1 ready)
  streams k (office_comes p j ∷ later) old new here next goes begun entry at alone not none ready =
      let parts = or_none (nat_eq p o) (comes o (all_deeds later)) none in
      let other : nat_eq j k ≡ false = differs j k (λ same. none_some {X = ℕ × Entry J} (o, entry) (sym goes.2.1 ∙ (ap here.offices same ∙ at))) in
      let beside_it = put_beside k j p (Some (p, goes.2.0)) here.offices goes.1.offices (λ it is. apart p o parts.0 (ap (λ (both : ℕ × Entry J). both.0) (one_some {X = ℕ × Entry J} (p, goes.2.0) (o, it) is))) goes.2.3 alone in
      streams k later goes.0 new goes.1 next goes.3 begun entry (at_other k j (Some (p, goes.2.0)) here.offices goes.1.offices entry other goes.2.3 at) beside_it (kept_slots g jg owes o here.slots goes.1.slots goes.2.4 not) parts.1 ready
  streams k (office_leaves p j overdue ∷ later) old new here next goes begun entry at alone not none ready =
      go (λ there beside_it. streams k later goes.0 new goes.1 next goes.3 begun entry there beside_it (kept_slots g jg owes o here.slots goes.1.slots goes.2.3 not) none ready) (nat_eq j k) refl
    where
      go : (goes.1.offices k ≡ Some (o, entry) → NotBeside k goes.1.offices → Streams begun entry later goes.0 new goes.1 next goes.3) → (same : Bool) → nat_eq j k ≡ same → Streams begun entry (office_leaves p j overdue ∷ later) old new here next goes
      go more true e =
          let puts = subst (λ (n : ℕ). Puts here.offices goes.1.offices n None) (eqb-true j k e) goes.2.2 in
          gone_streams begun entry later goes.0 new goes.1 next goes.3 (kept_slots g jg owes o here.slots goes.1.slots goes.2.3 not, gone_beside k here.offices goes.1.offices puts alone) none
      go more false e = more (at_other k j None here.offices goes.1.offices entry e goes.2.2 at) (put_beside k j p None here.offices goes.1.offices (λ it is. none_some {X = ℕ × Entry J} (o, it) is) goes.2.2 alone)
  streams k (aside deeds said ∷ later) old new here next goes begun entry at alone not none ready =
      let parts = or_none (comes o deeds) (comes o (all_deeds later)) (sym (comes-append o deeds (all_deeds later)) ∙ none) in
      beside begun entry deeds later goes.0 new goes.1 next goes.3 (aside_passes deeds goes.2.3 o parts.0)
      (streams k later goes.0 new goes.1 next goes.3 begun entry (goes.2.4 k ∙ at) (kept_beside k here.offices goes.1.offices goes.2.4 alone) (kept_slots g jg owes o here.slots goes.1.slots goes.2.2 not) parts.1 ready)
  streams k (enters p j text turned deeds said ∷ later) old new here next goes begun entry at alone not none ready =
      let parts = or_none (comes o deeds) (comes o (all_deeds later)) (sym (comes-append o deeds (all_deeds later)) ∙ none) in
      let slots = kept_slots g jg owes o here.slots goes.1.slots goes.2.9 not in
      by_number (λ it next_begun at_next alone_next is. streams k later goes.0 new goes.1 next goes.3 next_begun it at_next alone_next slots parts.1 is) slots parts.1 (nat_eq j k) refl
    where
      by_last : (last : Bool) → is_last turned ≡ last → deeds ≡ goes.2.2 ++ (if last then left o ∷ [] else []) → Puts here.offices goes.1.offices k (if◌then◌else◌ {A = AtOffice J} last None (Some (o, goes.2.1)))
          → ((it : List ℕ) → goes.1.offices k ≡ Some (o, goes.2.1) → IsReady it goes.2.1 → Streams it goes.2.1 later goes.0 new goes.1 next goes.3)
          → NotIn o goes.1.slots → comes o (all_deeds later) ≡ false → IsEntryTurn g jg o old entry turned goes.0 goes.2.1 goes.2.2
          → IsStream begun entry (TakesLine g jg (ends_line turned) old turned goes.0 (LinesCome g jg owes o later goes.0 new goes.1 next goes.3)) (answer_text text turned ++ answer_texts o later) (IsLeftWell o turned deeds ⊎ EndsWell o later)
          (given_by o goes.2.2 ++ given_by o (all_deeds later)) (taken_by o goes.2.2 ++ taken_by o (all_deeds later))
      by_last true is are puts more slots none_later turn =
          let gone_now : NotHeld o goes.1 = (slots, gone_beside k here.offices goes.1.offices puts alone) in
          let rest = gone later goes.0 new goes.1 next goes.3 gone_now none_later in
          let quiet = (unheld g jg owes o later goes.0 new goes.1 next goes.3 gone_now none_later).0 in
          turn_ends text begun entry goes.2.1 turned old goes.0 goes.2.2 (LinesCome g jg owes o later goes.0 new goes.1 next goes.3) (answer_texts o later) (EndsWell o later) (given_by o (all_deeds later)) (taken_by o (all_deeds later)) ready turn goes.2.10 deeds are
          rest.come rest.texts rest.never quiet.0 quiet.1
      by_last false is are puts more slots none_later turn =
          turn_goes text begun entry goes.2.1 turned old goes.0 goes.2.2 (LinesCome g jg owes o later goes.0 new goes.1 next goes.3) (answer_texts o later) (EndsWell o later) (given_by o (all_deeds later)) (taken_by o (all_deeds later)) ready turn goes.2.10 deeds
          (λ over. (let clash : true ≡ false = sym (ap is_last over) ∙ is in cc)) (λ it stands. more it (puts k ∙ rw (eq-eqb k k refl) refl) stands)

      by_number : ((it : Entry J) (begun : List ℕ) → goes.1.offices k ≡ Some (o, it) → NotBeside k goes.1.offices → IsReady begun it → Streams begun it later goes.0 new goes.1 next goes.3) → NotIn o goes.1.slots → comes o (all_deeds later) ≡ false
          → (own : Bool) → nat_eq j k ≡ own → Streams begun entry (enters p j text turned deeds said ∷ later) old new here next goes
      by_number more slots none_later true e =
          let w = goes.2 in
          let number = eqb-true j k e in
          let held : here.offices k ≡ Some (p, w.0) = ap here.offices (sym number) ∙ w.3 in
          let same = same_office p entry w.0 (here.offices k) held at in
          let turn : IsEntryTurn g jg o old entry turned goes.0 w.1 w.2 = subst (λ (n : ℕ). IsEntryTurn g jg n old entry turned goes.0 w.1 w.2) same.0 (subst (λ (it : Entry J). IsEntryTurn g jg p old it turned goes.0 w.1 w.2) same.1 w.4) in
          let are : deeds ≡ w.2 ++ (if is_last turned then left o ∷ [] else []) = w.5 ∙ ap (λ (n : ℕ). w.2 ++ (if is_last turned then left n ∷ [] else [])) same.0 in
          let puts = subst (λ (i : ℕ). Puts here.offices goes.1.offices i (if◌then◌else◌ {A = AtOffice J} (is_last turned) None (Some (o, w.1)))) number
          (subst (λ (n : ℕ). Puts here.offices goes.1.offices j (if◌then◌else◌ {A = AtOffice J} (is_last turned) None (Some (n, w.1)))) same.0 w.8) in
          let bytes = last_passes w.2 (is_last turned) in
          entered text p begun entry turned old goes.0 deeds w.2 (LinesCome g jg owes o later goes.0 new goes.1 next goes.3) (answer_texts o later) (EndsWell o later) (all_deeds later) []
          (eq-eqb p o same.0) (ap (λ (l : List Deed). given_by o l) are ∙ bytes.0, ap (λ (l : List Deed). taken_by o l) are ∙ bytes.1)
          (by_last (is_last turned) refl are puts (λ it at_next is. more w.1 it at_next (put_own k (if◌then◌else◌ {A = AtOffice J} (is_last turned) None (Some (o, w.1))) here.offices goes.1.offices puts alone) is) slots none_later turn)
      by_number more slots none_later false e =
          let w = goes.2 in
          let other : nat_eq p o ≡ false = differs p o (λ same. alone j w.0 (differs k j (λ is. apart j k e (sym is))) (w.3 ∙ ap (λ (n : ℕ). Some (n, w.0)) same)) in
          let one : AtOffice J = if◌then◌else◌ {A = AtOffice J} (is_last turned) None (Some (p, w.1)) in
          let none_of_it : ((it : Entry J) → one ≡ Some (o, it) → ⊥) = (λ it is. not_here (is_last turned) it other is) in
          let rest = more entry begun (at_other k j one here.offices goes.1.offices entry e w.8 at) (put_beside k j p one here.offices goes.1.offices none_of_it w.8 alone) ready in
          let quiet = enters_apart g jg owes o p old goes.0 w.0 w.1 turned deeds w.2 other w.5 w.4 in
          beside_turn p j text turned deeds said old goes.0 begun entry later new goes.1 next goes.3 other quiet rest
        where
          not_here : (last : Bool) (it : Entry J) → nat_eq p o ≡ false → ◌≡◌ {A = AtOffice J} (if◌then◌else◌ {A = AtOffice J} last None (Some (p, goes.2.1))) (Some (o, it)) → ⊥
          not_here true it other is = none_some {X = ℕ × Entry J} (o, it) is
          not_here false it other is = apart p o other (ap (λ (both : ℕ × Entry J). both.0) (one_some {X = ℕ × Entry J} (p, goes.2.1) (o, it) is))

pub office_is_answered : {R J W : Type 0} (g : Ghosts R) (jg : JournalGhosts R J) (owes : W → List ℕ) → OfficeIsAnswered g jg owes
office_is_answered {R} {J} {W} g jg owes o k before later old mid new first here next empty goes_before goes none_before none_later =
    let nobody : NotHeld o first = ((λ d channel at. none_some {X = ℕ × Channel W} (o, channel) (sym (empty.0 d) ∙ at)), (λ j entry at. none_some {X = ℕ × Entry J} (o, entry) (sym (empty.1 j) ∙ at))) in
    let quiet = unheld g jg owes o before old mid first here goes_before nobody none_before in
    let w = goes.2 in
    let new_entry = w.2 in
    let ready : IsReady [] w.0 = record { has = new_entry.none_begun; one = refl; ended = λ ended. (new_entry.none_read, refl) } in
    let alone = put_own g jg owes o k (Some (o, w.0)) here.offices goes.1.offices w.3 (λ j it other at. quiet.1.1 j it at) in
    let s = streams g jg owes o k later goes.0 new goes.1 next goes.3 [] w.0 (w.3 k ∙ rw (eq-eqb k k refl) refl) alone (kept_slots g jg owes o here.slots goes.1.slots w.4 quiet.1.0) none_later ready in
    let all = all_deeds-append before (office_comes o k ∷ later) in
    let read = ap (λ (l : List Deed). given_by o l) all ∙ given_more g jg owes o (all_deeds before) (office_came o ∷ all_deeds later) quiet.0 in
    let written = ap (λ (l : List Deed). taken_by o l) all ∙ taken_more g jg owes o (all_deeds before) (office_came o ∷ all_deeds later) quiet.0 in
    record {
      lines = s.lines;
      more = s.more;
      unwritten = s.rest;
      ended = ap (λ (l : List ℕ). lines_in l) (read ∙ sym (ap (λ (l : List ℕ). l ++ given_by o (all_deeds later)) new_entry.none_read)) ∙ s.ended;
      come = s.come;
      answered = (sym (ap (λ (l : List ℕ). l ++ answer_texts o later) new_entry.none_written) ∙ s.answered) ∙ ap (λ (l : List ℕ). l ++ s.rest) (sym written);
      all = s.all;
    }
