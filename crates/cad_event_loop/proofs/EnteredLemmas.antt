-- What keeps the commands stands for those that were entered.
use Rattle.std.proofs.Common.{◌≡◌, ℕ, ◌+◌, Bool, List, [], ◌∷◌, ◌++◌, length, None, Some, Result, Ok, Err, refl, sym, ap, subst, ◌∙◌, append_assoc, append-nil, length-append, inl, inr}
use Rattle.cad_versions.specs.declared.command.Command.{Command}
use Rattle.cad_stream.specs.declared.responder.Responder.{Ghosts}
use Rattle.cad_stream.specs.declared.journal_responder.JournalResponder.{Ghosts as JournalGhosts}
use Rattle.cad_desk.specs.declared.desk.Desk.{Desk}
use Rattle.cad_desk.specs.Desks.{responder_of}
use Rattle.cad_office.specs.declared.print.Answer.{Answer}
use Rattle.cad_versions.specs.declared.fault.RegisterFault.{RegisterFault}
use Rattle.cad_office.specs.declared.print.Answer.TheVariants.{Entered, Refused, NotACommand}
use Rattle.cad_dry_run.specs.declared.report.Report.{Report}
use Rattle.cad_dry_run.specs.declared.report.Report.TheVariants as report
use Rattle.cad_office_socket.specs.declared.turned.EntryTurned.{EntryTurned}
use Rattle.cad_office_socket.specs.declared.turned.EntryTurned.TheVariants.{Wrote, Took, Added, Answered, Lost, Checked, CheckLost, StatusAnswered, StatusLost, JournalBegun, RowsRead, RowsRefused, RowsLost, Piece, PieceLost, Stops, Waits, Over}
use Rattle.cad_event_loop.specs.Works.{Place, rows, Said, Work, wakes, opens, acts, waits, ends, office_comes, enters, office_leaves, aside, SaysSo, ChecksSo, IsCheckSaid, IsLineSaid, Tells, Goes, MayGoOn}
use Rattle.cad_event_loop.specs.Laws.{commands_by, commands_in, AreEntered, AreFirst, AreFirstBy, LedgerStands}
use Rattle.cad_event_loop.specs.lemmas.CleanLemmas.{goes_clean}
use Rattle.cad_event_loop.proofs.StandLemmas.{goes_stands}

module _ {R J W : Type 0} (g : Ghosts R) (jg : JournalGhosts R J) (owes : W → List ℕ) where
  -- commands that were entered after these
  abbrev EnteredIn : List Command → List Work → Type 0
  EnteredIn commands works = (entered : List Command) × AreEntered works (length commands) entered × (commands_in commands works ≡ commands ++ entered)

  -- the same by a line that was answered
  abbrev EnteredBy : List Command → List ℕ → Answer → Said → List Work → Type 0
  EnteredBy commands text answer said later = (entered : List Command) × AreFirst (AreEntered later) (length commands) text answer entered × (commands_in (commands_by commands said) later ≡ commands ++ entered)

  module _ (commands : List Command) (text : List ℕ) (said : Said) (later : List Work) (old mid : Desk R) (tells : Tells g jg old said mid) (counts : g.counts (responder_of mid)) (stands : g.stands_for (responder_of old) commands)
      (rest : EnteredIn (commands_by commands said) later) where
    none_more : commands_by commands said ≡ commands → EnteredIn commands later
    none_more same = subst (λ (cs : List Command). EnteredIn cs later) same rest

    answered : (answer : Answer) → SaysSo text answer said → EnteredBy commands text answer said later
    answered (Entered revision) says =
        let told : commands_by commands said ≡ commands ++ says.0 ∷ [] = rw says.2 refl in
        let count : length (commands_by commands said) ≡ length commands + 1 = rw told (length-append commands (says.0 ∷ [])) in
        let step = subst (λ (it : Said). Tells g jg old it mid) says.2 tells in
        let revision_is = step.stepped.1 counts commands stands in (
          says.0 ∷ rest.0,
          (says.1, revision_is.1, subst (λ (n : ℕ). AreEntered later n rest.0) count rest.1),
          rest.2 ∙ (ap (λ (cs : List Command). cs ++ rest.0) told ∙ append_assoc commands (says.0 ∷ []) rest.0),
        )
    answered (Refused fault) says =
        let same : commands_by commands said ≡ commands = elim says [
          | inl refused ↦ rw refused.2 refl
          | inr none ↦ rw none.2 refl
        ] in
        let r = none_more same in
        (r.0, r.1, subst (λ (cs : List Command). commands_in cs later ≡ commands ++ r.0) (sym same) r.2)
    answered NotACommand says =
        let same : commands_by commands said ≡ commands = rw says.1 refl in
        let r = none_more same in
        (r.0, r.1, subst (λ (cs : List Command). commands_in cs later ≡ commands ++ r.0) (sym same) r.2)

    -- a check enters nothing
    check_same : (it : Report) (line : List ℕ) → ChecksSo line it said → commands_by commands said ≡ commands
    check_same (report.WouldBe revision) line says = rw says.2 refl
    check_same (report.Refused fault) line says = elim says [
      | inl refused ↦ rw refused.2 refl
      | inr none ↦ rw none.2 refl
    ]
    check_same (report.NoCommand reason) line says = rw says.1 refl
    check_same report.LongLine line says = rw says.1 refl

    checked : (it : Report) → IsCheckSaid text it said → (entered : List Command) × AreEntered later (length commands) entered × (commands_in (commands_by commands said) later ≡ commands ++ entered)
    checked it says =
        let same = check_same it says.0 says.2 in
        let r = none_more same in
        (r.0, r.1, subst (λ (cs : List Command). commands_in cs later ≡ commands ++ r.0) (sym same) r.2)

    -- nor do rows of a journal that are read
    rows_read : (answer : Result Bool RegisterFault) → said ≡ Some (rows answer) → (entered : List Command) × AreEntered later (length commands) entered × (commands_in (commands_by commands said) later ≡ commands ++ entered)
    rows_read answer says =
        let same : commands_by commands said ≡ commands = rw says refl in
        let r = none_more same in
        (r.0, r.1, subst (λ (cs : List Command). commands_in cs later ≡ commands ++ r.0) (sym same) r.2)

    untold : said ≡ None → EnteredIn commands later × (commands_in (commands_by commands said) later ≡ commands_in commands later)
    untold none = (none_more (rw none refl), rw none refl)

    entered_by : (turned : EntryTurned) → IsLineSaid text turned said
        → (entered : List Command) × AreFirstBy (AreEntered later) (length commands) text turned entered × (commands_in (commands_by commands said) later ≡ commands ++ entered)
    entered_by (Answered answer) line = answered answer line.1
    entered_by (Lost answer) line = answered answer line.1
    entered_by (Checked it) line = checked it line
    entered_by (CheckLost it) line = checked it line
    entered_by (StatusAnswered status) line = let r = untold line.1 in (r.0.0, r.0.1, r.1 ∙ r.0.2)
    entered_by StatusLost line = let r = untold line.1 in (r.0.0, r.0.1, r.1 ∙ r.0.2)
    entered_by (JournalBegun behind) line = let r = untold line.1 in (r.0.0, r.0.1, r.1 ∙ r.0.2)
    entered_by RowsRead line = rows_read (Ok line.0) line.1
    entered_by (RowsRefused fault) line = rows_read (Err fault) line
    entered_by (RowsLost fault) line = rows_read (Err fault) line
    entered_by Piece line = let r = untold line in (r.0.0, r.0.1, r.1 ∙ r.0.2)
    entered_by PieceLost line = let r = untold line in (r.0.0, r.0.1, r.1 ∙ r.0.2)
    entered_by Stops line = let r = untold line.1 in (r.0.0, r.0.1, r.1 ∙ r.0.2)
    entered_by Wrote line = let r = untold line in (r.0.0, r.0.1, r.1 ∙ r.0.2)
    entered_by Took line = let r = untold line in (r.0.0, r.0.1, r.1 ∙ r.0.2)
    entered_by Added line = let r = untold line in (r.0.0, r.0.1, r.1 ∙ r.0.2)
    entered_by Waits line = let r = untold line in (r.0.0, r.0.1, r.1 ∙ r.0.2)
    entered_by Over line = let r = untold line in (r.0.0, r.0.1, r.1 ∙ r.0.2)

  entered_in : (commands : List Command) (works : List Work) (old new : Desk R) (here next : Place J W) → (goes : Goes g jg owes old here works new next) → MayGoOn g jg owes works old new here next goes
      → g.counts (responder_of new) → g.stands_for (responder_of old) commands → EnteredIn commands works
  entered_in commands [] old new here next goes may counts stands = ([], refl, sym (append-nil commands))
  entered_in commands (wakes places ∷ later) old new here next goes may counts stands =
      let after = goes_clean g jg owes later goes.0 new goes.1 next goes.3 counts in
      let one = goes_stands g jg owes commands (wakes places ∷ []) old goes.0 here goes.1 (goes.0, goes.1, goes.2, (refl, refl)) (may.0, tt) after stands in
      entered_in commands later goes.0 new goes.1 next goes.3 may.1 counts one
  entered_in commands (opens s c ∷ later) old new here next goes may counts stands =
      let after = goes_clean g jg owes later goes.0 new goes.1 next goes.3 counts in
      let one = goes_stands g jg owes commands (opens s c ∷ []) old goes.0 here goes.1 (goes.0, goes.1, goes.2, (refl, refl)) (may.0, tt) after stands in
      entered_in commands later goes.0 new goes.1 next goes.3 may.1 counts one
  entered_in commands (acts s c act owing ∷ later) old new here next goes may counts stands =
      let after = goes_clean g jg owes later goes.0 new goes.1 next goes.3 counts in
      let one = goes_stands g jg owes commands (acts s c act owing ∷ []) old goes.0 here goes.1 (goes.0, goes.1, goes.2, (refl, refl)) (may.0, tt) after stands in
      entered_in commands later goes.0 new goes.1 next goes.3 may.1 counts one
  entered_in commands (waits s c ∷ later) old new here next goes may counts stands =
      let after = goes_clean g jg owes later goes.0 new goes.1 next goes.3 counts in
      let one = goes_stands g jg owes commands (waits s c ∷ []) old goes.0 here goes.1 (goes.0, goes.1, goes.2, (refl, refl)) (may.0, tt) after stands in
      entered_in commands later goes.0 new goes.1 next goes.3 may.1 counts one
  entered_in commands (ends s c cause deeds said ∷ later) old new here next goes may counts stands =
      let after = goes_clean g jg owes later goes.0 new goes.1 next goes.3 counts in
      let one = goes_stands g jg owes commands (ends s c cause deeds said ∷ []) old goes.0 here goes.1 (goes.0, goes.1, goes.2, (refl, refl)) (may.0, tt) after stands in
      entered_in commands later goes.0 new goes.1 next goes.3 may.1 counts one
  entered_in commands (office_comes o k ∷ later) old new here next goes may counts stands =
      let after = goes_clean g jg owes later goes.0 new goes.1 next goes.3 counts in
      let one = goes_stands g jg owes commands (office_comes o k ∷ []) old goes.0 here goes.1 (goes.0, goes.1, goes.2, (refl, refl)) (may.0, tt) after stands in
      entered_in commands later goes.0 new goes.1 next goes.3 may.1 counts one
  entered_in commands (office_leaves o k overdue ∷ later) old new here next goes may counts stands =
      let after = goes_clean g jg owes later goes.0 new goes.1 next goes.3 counts in
      let one = goes_stands g jg owes commands (office_leaves o k overdue ∷ []) old goes.0 here goes.1 (goes.0, goes.1, goes.2, (refl, refl)) (may.0, tt) after stands in
      entered_in commands later goes.0 new goes.1 next goes.3 may.1 counts one
  entered_in commands (aside deeds said ∷ later) old new here next goes may counts stands =
      let after = goes_clean g jg owes later goes.0 new goes.1 next goes.3 counts in
      let one = goes_stands g jg owes commands (aside deeds said ∷ []) old goes.0 here goes.1 (goes.0, goes.1, goes.2, (refl, refl)) (may.0, tt) after stands in
      entered_in commands later goes.0 new goes.1 next goes.3 may.1 counts one
  entered_in commands (enters o k text turned deeds said ∷ later) old new here next goes may counts stands =
      let after = goes_clean g jg owes later goes.0 new goes.1 next goes.3 counts in
      let one = goes_stands g jg owes commands (enters o k text turned deeds said ∷ []) old goes.0 here goes.1 (goes.0, goes.1, goes.2, (refl, refl)) (may.0, tt) after stands in
      entered_by commands text said later old goes.0 goes.2.7 after stands (entered_in (commands_by commands said) later goes.0 new goes.1 next goes.3 may.1 counts one) turned goes.2.6

  pub ledger_stands : LedgerStands g jg owes
  ledger_stands commands works old new here next goes may counts stands =
      let in_all = entered_in commands works old new here next goes may counts stands in
      (in_all.0, in_all.1, in_all.2, subst (λ (cs : List Command). g.stands_for (responder_of new) cs) in_all.2 (goes_stands g jg owes commands works old new here next goes may counts stands))
